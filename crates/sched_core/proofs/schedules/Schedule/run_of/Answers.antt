use Rattle.std.proofs.Common.{◌∙◌, ap, find}
use Rattle.sched_model.specs.Schedule.{is_at}
use Rattle.sched_core.specs.Changes.{ScheduleValue}
use Rattle.sched_core.proofs.schedules.Schedule.run_of.Goals as goal

pub run_of-requires : goal.run_of-requires
run_of-requires c = c.self.invariant.held.kept.sound.runs_by_key

pub returns : goal.returns
returns c = c.run_of.ensures ∙ ap (λ (h : ScheduleValue). find (is_at c.args.graph.now c.args.logical) h.content.runs) c.self.view_is
