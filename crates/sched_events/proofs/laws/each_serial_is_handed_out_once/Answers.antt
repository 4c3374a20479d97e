use Rattle.sched_events.proofs.PromiseLemmas.{step_next, steps_next, step_serials, steps_serials, steps_once}
use Rattle.sched_events.proofs.laws.each_serial_is_handed_out_once.Goals as goal

pub returns : goal.returns
returns c = record { rises = step_next; rises_along = steps_next; handed = step_serials; handed_along = steps_serials; once = steps_once }
