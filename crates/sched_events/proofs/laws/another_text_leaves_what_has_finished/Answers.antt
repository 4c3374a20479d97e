use Rattle.sched_events.proofs.PromiseLemmas.{step_finished}
use Rattle.sched_events.proofs.laws.another_text_leaves_what_has_finished.Goals as goal

pub returns : goal.returns
returns c = step_finished
