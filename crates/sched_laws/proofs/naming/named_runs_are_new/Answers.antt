use Rattle.sched_laws.proofs.NamedLemmas.{named_new}
use Rattle.sched_laws.proofs.naming.named_runs_are_new.Goals as goal

pub returns : goal.returns
returns c = named_new
