-- Drafts that meet what rows_of asks of their graphs: those that keep all graphs, pause one, or put another one in the place of one.
use Rattle.std.proofs.Common.{◌≡◌, ◌∙◌, refl, sym, ap, ℕ, List, [], ◌∷◌, Bool, true, false, cond, Option, Some, None, slice_get}
use Rattle.dag_check.specs.Orders.{is_in}
use Rattle.sched_state.specs.Lists.{same}
use Rattle.sched_state.specs.declared.graphs.LoadedGraph.{LoadedGraph}
use Rattle.sched_state.specs.declared.runs.Run.{Run}
use Rattle.sched_state.proofs.NameLemmas.{same_is}
use Rattle.sched_state.proofs.OrderLemmas.{map_keeps}
use Rattle.sched_model.specs.Changes.{pause_graph}
use Rattle.sched_model.specs.Schedule.{Schedule, dag_among, graph_among}
use Rattle.sched_draft.specs.Drafts.{SameDags}
use Rattle.sched_draft.specs.Parts.{replaced_with, with_other, with_pause}
use Rattle.sched_draft.proofs.SearchLemmas.{graph_id}
use Rattle.record_rules.proofs.sched_laws.GraphLemmas.{flip_same}
use Rattle.record_rules.proofs.sched_laws.LoadLemmas.{dag_found}
use Rattle.record_writing.specs.Before.{AreNamedAlike, KeepDags}

-- ---- ids
paused_id : (id : List ℕ) (p : Bool) (g : LoadedGraph) → graph_id (pause_graph id p g) ≡ graph_id g
paused_id id p g = elim (same g.dag.spec.dag_id id) as (λ b. graph_id (cond b (record g { paused = p }) g) ≡ graph_id g) [ true ↦ refl | false ↦ refl ]

pub pause_alike : (u : Option (List ℕ)) (p : Bool) (gs : List LoadedGraph) → AreNamedAlike gs (with_pause u p gs)
pause_alike None p gs = refl
pause_alike (Some id) p gs = map_keeps graph_id (pause_graph id p) (paused_id id p) gs

other_id : (w g : LoadedGraph) → graph_id (replaced_with (Some w) g) ≡ graph_id g
other_id w g = elim (same w.dag.spec.dag_id g.dag.spec.dag_id) as (λ b. same w.dag.spec.dag_id g.dag.spec.dag_id ≡ b → graph_id (cond b w g) ≡ graph_id g) [
  | true ↦ λ e. same_is w.dag.spec.dag_id g.dag.spec.dag_id e
  | false ↦ λ e. refl
] refl

pub other_alike : (o : Option LoadedGraph) (gs : List LoadedGraph) → AreNamedAlike gs (with_other o gs)
other_alike None gs = refl
other_alike (Some w) gs = map_keeps graph_id (replaced_with (Some w)) (other_id w) gs

-- ---- tasks and edges
-- where no run has another graph, none that is not touched has
pub same_kept : (touched : List ℕ) (a b : Schedule) → SameDags a b → KeepDags touched a b
same_kept touched a b dags n r e other = dags n r e

-- a graph with another id is as it was
found_beside : (w : LoadedGraph) (id : List ℕ) (gs : List LoadedGraph) → same id w.dag.spec.dag_id ≡ false → graph_among (with_other (Some w) gs) id ≡ graph_among gs id
found_beside w id [] apart = refl
found_beside w id (g ∷ gs) apart =
    let later : graph_among (with_other (Some w) gs) id ≡ graph_among gs id = found_beside w id gs apart in
    let wid : List ℕ = w.dag.spec.dag_id in
    let gid : List ℕ = g.dag.spec.dag_id in
    let not_w : same wid id ≡ false = flip_same id wid apart in
    elim (same wid gid) as (λ b. same wid gid ≡ b → cond (same (cond b w g).dag.spec.dag_id id) (Some (cond b w g)) (graph_among (with_other (Some w) gs) id) ≡ cond (same gid id) (Some g) (graph_among gs id)) [
      | true ↦ λ e.
          let not_g : same gid id ≡ false = ap (λ k. same k id) (sym (same_is wid gid e)) ∙ not_w in
          ap (λ b. cond b (Some w) (graph_among (with_other (Some w) gs) id)) not_w ∙ (later ∙ sym (ap (λ b. cond b (Some g) (graph_among gs id)) not_g))
      | false ↦ λ e. ap (λ (o : Option LoadedGraph). cond (same gid id) (Some g) o) later
    ] refl

-- where each run of the graph is touched, none that is not touched has another graph
pub other_kept : (touched : List ℕ) (w : LoadedGraph) (a b : Schedule) → b.graphs ≡ with_other (Some w) a.graphs
    → ((n : ℕ) (r : Run) → slice_get b.runs n ≡ Some r → is_in touched n ≡ false → same r.graph w.dag.spec.dag_id ≡ false) → KeepDags touched a b
other_kept touched w a b is apart n r e other =
    ap (λ (gs : List LoadedGraph). dag_among gs r.graph) is
    ∙ dag_found a.graphs (with_other (Some w) a.graphs) r.graph (found_beside w r.graph a.graphs (apart n r e other))
