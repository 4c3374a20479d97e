use Rattle.std.proofs.Common.{◌∙◌, ap}
use Rattle.sched_model.specs.States.{previous}
use Rattle.sched_core.specs.Changes.{ScheduleValue}
use Rattle.sched_core.proofs.schedules.Schedule.previous_run.Goals as goal

pub last_before-requires : goal.last_before-requires
last_before-requires c = c.self.invariant.held.kept.sound.runs_by_key

pub returns : goal.returns
returns c = c.last_before.ensures ∙ ap (λ (h : ScheduleValue). previous h.content c.args.run.now) c.self.view_is
