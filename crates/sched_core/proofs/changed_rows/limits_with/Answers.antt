use Rattle.std.proofs.Common.{◌≡◌, sym, ap, ◌∙◌, List, [], ◌∷◌, ℕ, map, pos, Vec, Some}
use Rattle.std.specs.Global.{Global}
use Rattle.std.specs.Option.{option_copied}
use Rattle.std.proofs.lemmas.Result.{IfOk-weaker}
use Rattle.graph_file.specs.declared.graph_specs.GraphSpec.{GraphSpec}
use Rattle.record_rows.specs.Rows.{DagLimitRow}
use Rattle.sched_state.specs.declared.graphs.LoadedGraph.{LoadedGraph}
use Rattle.sched_model.specs.Schedule.{graph_among}
use Rattle.sched_model.specs.Tables.{limit_row}
use Rattle.record_restoring.specs.record_rules.Between.{lacked}
use Rattle.record_writing.specs.record_rules.Changes.{same_dag_limit_row}
use Rattle.sched_draft.specs.Parts.{with_other}
use Rattle.sched_core.proofs.DagRowLemmas.{limit_itself, other_one, other_none}
use Rattle.sched_core.proofs.changed_rows.limits_with.Goals as goal

pub returns-in-Some : goal.returns-in-Some
returns-in-Some c =
    let gs : List LoadedGraph = c.args.graphs.now in
    let k : LoadedGraph = c.args.other.now in
    IfOk-weaker c.limit_lacked.result
    (λ (rows : Vec DagLimitRow Global). rows.items ≡ lacked same_dag_limit_row (map limit_row gs) (record { dag_id = c.spec.result.now.dag_id; max_active_tasks = pos c.get.result } ∷ []))
    (λ (rows : Vec DagLimitRow Global). rows.items ≡ lacked same_dag_limit_row (map limit_row gs) (map limit_row (with_other (Some k) gs)))
    (λ rows e. e
    ∙ (ap (λ (n : ℕ). lacked same_dag_limit_row (map limit_row gs) (record { dag_id = c.spec.result.now.dag_id; max_active_tasks = pos n } ∷ [])) c.get.ensures.value
    ∙ (ap (λ (s : GraphSpec). lacked same_dag_limit_row (map limit_row gs) (record { dag_id = s.dag_id; max_active_tasks = pos k.max_active_tasks } ∷ [])) c.spec.ensures.spec
    ∙ sym (other_one same_dag_limit_row limit_row limit_itself gs k c.in-Some.field-0.now c.requires
    (ap (λ (s : GraphSpec). graph_among gs s.dag_id) (sym c.spec.ensures.spec) ∙ (sym c.graph_named.ensures ∙ ap option_copied c.in-Some.is))))))
    c.limit_lacked.ensures

pub returns-in-None : goal.returns-in-None
returns-in-None c =
    let gs : List LoadedGraph = c.args.graphs.now in
    c.new.ensures.items
    ∙ sym (other_none same_dag_limit_row limit_row limit_itself gs c.args.other.now
    (ap (λ (s : GraphSpec). graph_among gs s.dag_id) (sym c.spec.ensures.spec) ∙ (sym c.graph_named.ensures ∙ ap option_copied c.in-None.is)))
