use Rattle.dag_check.proofs.LawLemmas.{cycle-refutes}
use Rattle.dag_check.proofs.laws.a_cycle_refutes_every_numbering.Goals as goal

pub returns : goal.returns
returns c = cycle-refutes
