use Rattle.std.proofs.Common.{◌≡◌, sym, ap, ◌∙◌, List, [], ◌∷◌, ℕ, map, pos, Vec}
use Rattle.std.specs.Global.{Global}
use Rattle.std.specs.Option.{option_copied}
use Rattle.std.proofs.lemmas.Result.{IfOk-weaker}
use Rattle.graph_file.specs.declared.graph_specs.GraphSpec.{GraphSpec}
use Rattle.record_rows.specs.Rows.{DagRow}
use Rattle.sched_state.specs.declared.graphs.LoadedGraph.{LoadedGraph}
use Rattle.sched_model.specs.Tables.{dag_row, flag_code}
use Rattle.record_restoring.specs.record_rules.Between.{lacked}
use Rattle.record_writing.specs.record_rules.Changes.{same_dag_row}
use Rattle.sched_core.specs.Effects.{changed}
use Rattle.sched_core.specs.declared.changes.GraphChange.{GraphChange}
use Rattle.sched_core.proofs.DagRowLemmas.{paused_among, row_itself, no_rows, dag_text_row, paused_row, paused_none}
use Rattle.sched_core.proofs.changed_rows.dags_changed.Goals as goal

pub returns-in-Same : goal.returns-in-Same
returns-in-Same c =
    let gs : List LoadedGraph = c.args.graphs.now in
    c.new.ensures.items ∙ sym (no_rows same_dag_row dag_row row_itself gs) ∙ ap (λ (g : GraphChange). lacked same_dag_row (map dag_row gs) (map dag_row (changed g gs))) (sym c.in-Same.is)

pub returns-in-Load : goal.returns-in-Load
returns-in-Load c =
    let gs : List LoadedGraph = c.args.graphs.now in
    let text : List ℕ = c.in-Load.text in
    let dag = c.in-Load.dag in
    IfOk-weaker c.dag_lacked.result
    (λ (rows : Vec DagRow Global). rows.items ≡ lacked same_dag_row (map dag_row gs) (record { dag_id = c.spec.result.now.dag_id; body = text; paused = pos (flag_code c.is_paused.result) } ∷ []))
    (λ (rows : Vec DagRow Global). rows.items ≡ lacked same_dag_row (map dag_row gs) (map dag_row (changed c.args.change.now gs)))
    (λ rows e. e
    ∙ ap (λ b. lacked same_dag_row (map dag_row gs) (record { dag_id = c.spec.result.now.dag_id; body = text; paused = pos (flag_code b) } ∷ [])) c.is_paused.ensures
    ∙ ap (λ (s : GraphSpec). lacked same_dag_row (map dag_row gs) (record { dag_id = s.dag_id; body = text; paused = pos (flag_code (paused_among gs s.dag_id)) } ∷ [])) c.spec.ensures.spec
    ∙ sym (dag_text_row gs text dag c.requires)
    ∙ ap (λ (g : GraphChange). lacked same_dag_row (map dag_row gs) (map dag_row (changed g gs))) (sym c.in-Load.is))
    c.dag_lacked.ensures

pub returns-in-Some : goal.returns-in-Some
returns-in-Some c =
    let gs : List LoadedGraph = c.args.graphs.now in
    let id : List ℕ = c.in-Pause.id in
    let g : LoadedGraph = c.in-Some.graph.now in
    IfOk-weaker c.dag_lacked-in-Some.result
    (λ (rows : Vec DagRow Global). rows.items ≡ lacked same_dag_row (map dag_row gs) (record { dag_id = id; body = g.text; paused = pos (flag_code c.in-Pause.paused) } ∷ []))
    (λ (rows : Vec DagRow Global). rows.items ≡ lacked same_dag_row (map dag_row gs) (map dag_row (changed c.args.change.now gs)))
    (λ rows e. e
    ∙ sym (paused_row gs id c.in-Pause.paused g c.requires (sym c.graph_named.ensures ∙ ap option_copied c.in-Some.is))
    ∙ ap (λ (h : GraphChange). lacked same_dag_row (map dag_row gs) (map dag_row (changed h gs))) (sym c.in-Pause.is))
    c.dag_lacked-in-Some.ensures

pub returns-in-None : goal.returns-in-None
returns-in-None c =
    let gs : List LoadedGraph = c.args.graphs.now in
    c.new-in-None.ensures.items
    ∙ sym (paused_none same_dag_row dag_row row_itself gs c.in-Pause.id c.in-Pause.paused (sym c.graph_named.ensures ∙ ap option_copied c.in-None.is))
    ∙ ap (λ (h : GraphChange). lacked same_dag_row (map dag_row gs) (map dag_row (changed h gs))) (sym c.in-Pause.is)
