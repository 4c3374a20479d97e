use Rattle.std.proofs.Common.{◌-◌}
use Rattle.sched_events.specs.Steps.{steps}
use Rattle.minutes.proofs.OwnerLemmas.{handed_once}
use Rattle.minutes.proofs.laws.serials_of_the_minutes_are_handed_out_once.Goals as goal

pub returns : goal.returns
returns c es a serial accepted sound = handed_once es a a.next ((steps es a).next - a.next) serial (c.each_serial_is_handed_out_once.ensures.handed_along es a accepted sound)
