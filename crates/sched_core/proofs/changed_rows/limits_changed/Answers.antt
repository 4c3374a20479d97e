use Rattle.std.proofs.Common.{◌≡◌, sym, ap, ◌∙◌, ◌⊎◌, inl, inr, Bool, List, [], ◌∷◌, ℕ, map, pos, Vec}
use Rattle.std.specs.Global.{Global}
use Rattle.std.proofs.lemmas.Result.{IfOk-weaker}
use Rattle.graph_file.specs.declared.graph_specs.GraphSpec.{GraphSpec}
use Rattle.record_rows.specs.Rows.{DagLimitRow}
use Rattle.sched_state.specs.declared.graphs.LoadedGraph.{LoadedGraph}
use Rattle.sched_model.specs.Schedule.{graph_among}
use Rattle.sched_model.specs.Tables.{limit_row}
use Rattle.record_restoring.specs.record_rules.Between.{lacked}
use Rattle.record_writing.specs.record_rules.Changes.{same_dag_limit_row}
use Rattle.sched_core.specs.Effects.{changed}
use Rattle.sched_core.specs.Inside.{taken_among}
use Rattle.sched_core.specs.declared.changes.GraphChange.{GraphChange}
use Rattle.sched_core.specs.declared.changes.GraphChange.TheVariants as graphs
use Rattle.sched_core.proofs.DagRowLemmas.{limit_itself, no_rows, limit_text_row, paused_limits}
use Rattle.sched_core.proofs.changed_rows.limits_changed.Goals as goal

-- graphs that stay, and those of which one is paused or not
no_limits : (g : GraphChange) (gs : List LoadedGraph) → (g ≡ graphs.Same) ⊎ ((id : List ℕ) × (paused : Bool) × (g ≡ graphs.Pause id paused)) → lacked same_dag_limit_row (map limit_row gs) (map limit_row (changed g gs)) ≡ []
no_limits g gs (inl same) = ap (λ (h : GraphChange). lacked same_dag_limit_row (map limit_row gs) (map limit_row (changed h gs))) same ∙ no_rows same_dag_limit_row limit_row limit_itself gs
no_limits g gs (inr pause) =
    ap (λ (h : GraphChange). lacked same_dag_limit_row (map limit_row gs) (map limit_row (changed h gs))) pause.2
    ∙ (ap (lacked same_dag_limit_row (map limit_row gs)) (paused_limits pause.0 pause.1 gs) ∙ no_rows same_dag_limit_row limit_row limit_itself gs)

pub returns-in-Same : goal.returns-in-Same
returns-in-Same c = c.new.ensures.items ∙ sym (no_limits c.args.change.now c.args.graphs.now c.in-Same.is)

pub returns-in-Load : goal.returns-in-Load
returns-in-Load c =
    let gs : List LoadedGraph = c.args.graphs.now in
    let text : List ℕ = c.in-Load.text in
    let dag = c.in-Load.dag in
    let bound : ℕ = (taken_among text dag (graph_among gs dag.spec.dag_id)).max_active_tasks in
    IfOk-weaker c.limit_lacked.result
    (λ (rows : Vec DagLimitRow Global). rows.items ≡ lacked same_dag_limit_row (map limit_row gs) (record { dag_id = c.spec.result.now.dag_id; max_active_tasks = pos c.bound_after-bound.result } ∷ []))
    (λ (rows : Vec DagLimitRow Global). rows.items ≡ lacked same_dag_limit_row (map limit_row gs) (map limit_row (changed c.args.change.now gs)))
    (λ rows e. e
    ∙ ap (λ n. lacked same_dag_limit_row (map limit_row gs) (record { dag_id = c.spec.result.now.dag_id; max_active_tasks = pos n } ∷ [])) c.bound_after-bound.ensures
    ∙ ap (λ (s : GraphSpec). lacked same_dag_limit_row (map limit_row gs) (record { dag_id = s.dag_id; max_active_tasks = pos bound } ∷ [])) c.spec.ensures.spec
    ∙ sym (limit_text_row gs text dag c.requires)
    ∙ ap (λ (g : GraphChange). lacked same_dag_limit_row (map limit_row gs) (map limit_row (changed g gs))) (sym c.in-Load.is))
    c.limit_lacked.ensures
