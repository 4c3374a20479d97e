use Rattle.sched_events.proofs.StepLemmas.{steps_kept, steps_sound}
use Rattle.sched_events.proofs.laws.lists_of_steps_keep_the_schedule.Goals as goal

pub returns : goal.returns
returns c = record { kept = steps_kept; sound = steps_sound }
