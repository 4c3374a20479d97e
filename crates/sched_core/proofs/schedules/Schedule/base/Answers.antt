use Rattle.std.proofs.Common.{◌∙◌, List, ap}
use Rattle.sched_state.specs.declared.graphs.LoadedGraph.{LoadedGraph}
use Rattle.sched_model.specs.Lists.{rises}
use Rattle.sched_model.specs.Schedule.{Schedule, graph_before}
use Rattle.sched_core.specs.Books.{content_inside}
use Rattle.sched_core.specs.Changes.{ScheduleValue}
use Rattle.sched_core.proofs.schedules.Schedule.base.Goals as goal

pub invariant_of-result : goal.invariant_of-result
invariant_of-result c = ap (rises graph_before) c.as_slice.ensures.value ∙ c.self.invariant.held.kept.sound.graphs_by_id

pub returns : goal.returns
returns c =
    ap (λ (gs : List LoadedGraph). let s : Schedule = record (content_inside c.self.inside) { graphs = gs } in s) c.as_slice.ensures.value ∙ ap (λ (h : ScheduleValue). h.content) c.self.view_is
