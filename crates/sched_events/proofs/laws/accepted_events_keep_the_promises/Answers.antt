use Rattle.sched_events.proofs.PromiseLemmas.{step_promises, first_promises}
use Rattle.sched_events.proofs.laws.accepted_events_keep_the_promises.Goals as goal

pub returns : goal.returns
returns c = record { each = step_promises; from_the_first = first_promises }
