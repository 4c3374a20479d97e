use Rattle.sched_events.proofs.MarkedLemmas.{step_marked}
use Rattle.sched_events.proofs.laws.a_marked_task_is_skipped.Goals as goal

pub returns : goal.returns
returns c = step_marked
