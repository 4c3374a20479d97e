use Rattle.sched_events.proofs.StepLemmas.{steps_parts}
use Rattle.sched_events.proofs.laws.lists_of_steps_go_in_parts.Goals as goal

pub returns : goal.returns
returns c = steps_parts
