use Rattle.sched_events.proofs.StepLemmas.{step_settled, step_handed, step_kept}
use Rattle.sched_events.proofs.laws.steps_keep_the_schedule.Goals as goal

pub returns : goal.returns
returns c = record { settled = step_settled; handed = step_handed; kept = step_kept }
