use Rattle.std.proofs.Common.{◌∙◌, ap}
use Rattle.sched_model.specs.Lists.{rises}
use Rattle.sched_model.specs.Schedule.{graph_before}
use Rattle.sched_core.proofs.schedules.Schedule.graph_of.Goals as goal

pub graph_named-requires : goal.graph_named-requires
graph_named-requires c = ap (rises graph_before) c.as_slice.ensures.value ∙ c.self.invariant.held.kept.sound.graphs_by_id
