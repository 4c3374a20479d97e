use Rattle.std.proofs.Common.{◌≡◌, ◌∙◌, sym, ap, subst, List, map}
use Rattle.std.proofs.lemmas.Result.{IfOk-weaker}
use Rattle.record_rows.specs.Rows.{Rows, DagRow, DagLimitRow}
use Rattle.record_restoring.specs.record_rules.Between.{lacked}
use Rattle.record_writing.specs.record_rules.Changes.{rows_between, same_dag_row, same_dag_limit_row}
use Rattle.record_writing.specs.Before.{AreNamedAlike, KeepDags}
use Rattle.record_writing.proofs.PremiseLemmas.{same_kept}
use Rattle.sched_state.specs.declared.graphs.LoadedGraph.{LoadedGraph}
use Rattle.sched_model.specs.Schedule.{Schedule}
use Rattle.sched_model.specs.Tables.{dag_row, limit_row}
use Rattle.sched_core.specs.Changes.{ScheduleValue}
use Rattle.sched_core.specs.Effects.{changed}
use Rattle.sched_core.specs.Inside.{completed}
use Rattle.sched_core.proofs.ChangedRowLemmas.{AreRowsOf, draft_dags, draft_ids, draft_order, draft_fits, draft_rows}
use Rattle.sched_core.proofs.schedules.Schedule.rows_changed.Goals as goal

pub rows_of-requires-clause-base : goal.rows_of-requires-clause-base
rows_of-requires-clause-base c = c.base.ensures ∙ sym c.requires.based

pub rows_of-requires-clause-order : goal.rows_of-requires-clause-order
rows_of-requires-clause-order c = draft_order c.args.graphs.now c.args.self.now.content c.args.draft.now.content c.requires.over c.requires.sound

pub rows_of-requires-clause-after : goal.rows_of-requires-clause-after
rows_of-requires-clause-after c = draft_fits c.args.graphs.now c.args.self.now.content c.args.draft.now.content c.requires.over c.requires.last c.requires.sound

pub rows_of-requires-clause-graphs : goal.rows_of-requires-clause-graphs
rows_of-requires-clause-graphs c =
    subst (λ (s : Schedule). AreNamedAlike s.graphs c.args.draft.now.content.graphs) (sym c.requires.based) (draft_ids c.args.graphs.now c.args.self.now.content c.args.draft.now.content c.requires.over)

pub rows_of-requires-clause-dags : goal.rows_of-requires-clause-dags
rows_of-requires-clause-dags c =
    subst (λ (s : Schedule). KeepDags c.args.draft.now.touched s c.args.draft.now.content) (sym c.requires.based)
    (same_kept c.args.draft.now.touched c.args.self.now.content c.args.draft.now.content (draft_dags c.args.graphs.now c.args.self.now.content c.args.draft.now.content c.requires.leaves c.requires.over))

pub returns : goal.returns
returns c =
    let a : Schedule = c.args.self.now.content in
    let d : Schedule = c.args.draft.now.content in
    let ds : List DagRow = c.in_ok-dags.dags.items in
    let ls : List DagLimitRow = c.in_ok-limits.limits.items in
    let graphs : c.as_slice.result.now ≡ a.graphs = c.as_slice.ensures.value ∙ ap (λ (h : ScheduleValue). h.content.graphs) c.self.view_is in
    let beside : c.as_slice-2.result.now ≡ a.graphs = c.as_slice-2.ensures.value ∙ ap (λ (h : ScheduleValue). h.content.graphs) c.self.view_is in
    let rows : AreRowsOf a.graphs (changed c.args.graphs.now a.graphs) ds ls = record {
      dags = c.in_ok-dags.ensures ∙ ap (λ (gs : List LoadedGraph). lacked same_dag_row (map dag_row gs) (map dag_row (changed c.args.graphs.now gs))) graphs;
      limits = c.in_ok-limits.ensures ∙ ap (λ (gs : List LoadedGraph). lacked same_dag_limit_row (map limit_row gs) (map limit_row (changed c.args.graphs.now gs))) beside;
    } in
    IfOk-weaker c.rows_of.result
    (λ (rows : Rows). rows ≡ record (rows_between c.args.draft.now.base d) { dags = ds; dag_limits = ls })
    (λ (rows : Rows). rows ≡ rows_between a (completed c.args.graphs.now d))
    (λ w k. k ∙ (ap (λ (s : Schedule). record (rows_between s d) { dags = ds; dag_limits = ls }) c.requires.based ∙ draft_rows c.args.graphs.now a d ds ls c.requires.over c.requires.last rows))
    c.rows_of.ensures
