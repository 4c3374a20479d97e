use Rattle.std.proofs.Common.{◌∙◌, ap}
use Rattle.sched_model.specs.States.{in_flight}
use Rattle.sched_core.specs.Changes.{ScheduleValue}
use Rattle.sched_core.proofs.schedules.Schedule.in_flight.Goals as goal

pub returns : goal.returns
returns c = c.self.invariant.held.occupied.in_flight ∙ ap (λ (h : ScheduleValue). in_flight h.content) c.self.view_is
