-- A run by its row.
use Rattle.std.proofs.Common.{◌≡◌, refl, sym, ap, ◌∙◌, ℕ, List, [], ◌∷◌, map, find, Bool, true, false, cond, Option, Some, None, is_some, option_map, unwrap_or, true≢false}
use Rattle.std.specs.List.{list_all}
use Rattle.instance_machine.specs.Instances.{InstanceValue}
use Rattle.record_rows.specs.Rows.{Rows, RunRow}
use Rattle.sched_state.specs.Lists.{same}
use Rattle.sched_state.specs.declared.graphs.LoadedGraph.{LoadedGraph}
use Rattle.sched_state.specs.declared.runs.Run.{Run}
use Rattle.sched_state.proofs.NameLemmas.{same_is}
use Rattle.sched_state.proofs.OrderLemmas.{and_left}
use Rattle.sched_model.specs.Schedule.{graph_among, no_dag}
use Rattle.record_rules.specs.Reading.{run_of, instance_in}
use Rattle.record_rules.specs.Faults.{is_run_row_right, has_all_instances}
use Rattle.record_restoring.specs.Columns.{columns_in}
use Rattle.record_restoring.specs.Tasks.{has_row_of}
use Rattle.record_restoring.specs.declared.run_columns.RunColumns.{RunColumns}

found_passes : {X : Type 0} (p : X → Bool) (xs : List X) (x : X) → find p xs ≡ Some x → p x ≡ true
found_passes {X} p [] x e = absurd (let c : ◌≡◌ {A = Option X} None (Some x) = e in cc)
found_passes {X} p (y ∷ ys) x e = elim (p y) as (λ b. p y ≡ b → cond b (let o : Option X = Some y in o) (find p ys) ≡ Some x → p x ≡ true) [
  | true ↦ λ h k. let c : ◌≡◌ {A = Option X} (Some y) (Some x) = k in let q : y ≡ x = cc in ap p (sym q) ∙ h
  | false ↦ λ h k. found_passes p ys x k
] refl e

pub named_id : (gs : List LoadedGraph) (id : List ℕ) (g : LoadedGraph) → graph_among gs id ≡ Some g → g.dag.spec.dag_id ≡ id
named_id gs id g e = same_is g.dag.spec.dag_id id (found_passes (λ (h : LoadedGraph). same h.dag.spec.dag_id id) gs g e)

-- the graph of a right row is there
pub graph_there : (gs : List LoadedGraph) (r : RunRow) → is_run_row_right gs r ≡ true → graph_among gs r.dag_id ≡ None → ⊥
graph_there gs r h e = true≢false (sym (and_left (is_some (graph_among gs r.dag_id)) _ h) ∙ ap is_some e)

-- a row of each task of the run's graph is there
pub each_there : (rows : Rows) (gs : List LoadedGraph) (r : RunRow) (l : LoadedGraph) → graph_among gs r.dag_id ≡ Some l → has_all_instances gs rows r ≡ true → list_all (has_row_of rows r.dag_id r.logical) l.dag.tasks ≡ true
each_there rows gs r l f h =
    ap (λ (o : Option LoadedGraph). list_all (has_row_of rows r.dag_id r.logical) (unwrap_or (option_map (λ (g : LoadedGraph). g.dag) o) no_dag).tasks) (sym f) ∙ h

pub run_made : (rows : Rows) (gs : List LoadedGraph) (r : RunRow) (l : LoadedGraph) (g : List ℕ) (c : RunColumns) (is : List InstanceValue) → graph_among gs r.dag_id ≡ Some l
    → g ≡ l.dag.spec.dag_id → c ≡ columns_in r → is ≡ map (instance_in rows r.dag_id r.logical) l.dag.tasks
    → (let z : Run = record { graph = g; logical = c.logical; interval = c.interval; kind = c.kind; phase = c.phase; instances = is } in z) ≡ run_of rows gs r
run_made rows gs r l g c is f eg ec ei =
    ap (λ a. let z : Run = record { graph = a; logical = c.logical; interval = c.interval; kind = c.kind; phase = c.phase; instances = is } in z) (eg ∙ named_id gs r.dag_id l f)
    ∙ ap (λ (a : RunColumns). let z : Run = record { graph = r.dag_id; logical = a.logical; interval = a.interval; kind = a.kind; phase = a.phase; instances = is } in z) ec
    ∙ ap (λ a. let b : RunColumns = columns_in r in let z : Run = record { graph = r.dag_id; logical = b.logical; interval = b.interval; kind = b.kind; phase = b.phase; instances = a } in z)
    (ei ∙ ap (λ (o : Option LoadedGraph). map (instance_in rows r.dag_id r.logical) (unwrap_or (option_map (λ (h : LoadedGraph). h.dag) o) no_dag).tasks) (sym f))
