use Rattle.sched_events.proofs.StepLemmas.{no_backfill, no_clear}
use Rattle.sched_events.proofs.laws.repairs_of_nothing_change_nothing.Goals as goal

pub returns-clause-backfill : goal.returns-clause-backfill
returns-clause-backfill c = no_backfill

pub returns-clause-clear : goal.returns-clause-clear
returns-clause-clear c = no_clear
