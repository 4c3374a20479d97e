use Rattle.sched_events.proofs.PromiseLemmas.{step_reached}
use Rattle.sched_events.proofs.laws.steps_end_in_hand_outs.Goals as goal

pub returns : goal.returns
returns c = step_reached
