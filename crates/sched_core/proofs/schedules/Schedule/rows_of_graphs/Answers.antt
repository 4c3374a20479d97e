use Rattle.std.proofs.Common.{◌≡◌, ◌∙◌, ap, List, map}
use Rattle.record_rows.specs.Rows.{DagRow, DagLimitRow}
use Rattle.record_restoring.specs.record_rules.Between.{lacked}
use Rattle.record_writing.specs.record_rules.Changes.{same_dag_row, same_dag_limit_row}
use Rattle.sched_state.specs.declared.graphs.LoadedGraph.{LoadedGraph}
use Rattle.sched_model.specs.Schedule.{Schedule}
use Rattle.sched_model.specs.Tables.{dag_row, limit_row}
use Rattle.sched_core.specs.Changes.{ScheduleValue}
use Rattle.sched_core.specs.Effects.{changed}
use Rattle.sched_core.proofs.ChangedRowLemmas.{AreRowsOf, quiet_rows}
use Rattle.sched_core.proofs.schedules.Schedule.rows_of_graphs.Goals as goal

pub returns : goal.returns
returns c =
    let a : Schedule = c.args.self.now.content in
    let ds : List DagRow = c.in_ok-dags.dags.items in
    let ls : List DagLimitRow = c.in_ok-limits.limits.items in
    let graphs : c.as_slice.result.now ≡ a.graphs = c.as_slice.ensures.value ∙ ap (λ (h : ScheduleValue). h.content.graphs) c.self.view_is in
    let beside : c.as_slice-2.result.now ≡ a.graphs = c.as_slice-2.ensures.value ∙ ap (λ (h : ScheduleValue). h.content.graphs) c.self.view_is in
    let rows : AreRowsOf a.graphs (changed c.args.graphs.now a.graphs) ds ls = record {
      dags = c.in_ok-dags.ensures ∙ ap (λ (gs : List LoadedGraph). lacked same_dag_row (map dag_row gs) (map dag_row (changed c.args.graphs.now gs))) graphs;
      limits = c.in_ok-limits.ensures ∙ ap (λ (gs : List LoadedGraph). lacked same_dag_limit_row (map limit_row gs) (map limit_row (changed c.args.graphs.now gs))) beside;
    } in
    c.only.ensures ∙ quiet_rows a (changed c.args.graphs.now a.graphs) ds ls c.requires rows
