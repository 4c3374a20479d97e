use Rattle.sched_laws.proofs.FinishedLemmas.{advance_leaves}
use Rattle.sched_laws.proofs.settling.advancing_leaves_what_has_finished.Goals as goal

pub returns : goal.returns
returns c = advance_leaves
