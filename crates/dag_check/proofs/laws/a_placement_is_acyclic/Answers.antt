use Rattle.dag_check.proofs.LawLemmas.{placement-acyclic}
use Rattle.dag_check.proofs.laws.a_placement_is_acyclic.Goals as goal

pub returns : goal.returns
returns c = placement-acyclic
