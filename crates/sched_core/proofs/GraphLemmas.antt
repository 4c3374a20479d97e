-- A graph among those that stand by id: how it is found, replaced and put in, and that no run is of one that is not there.
use Rattle.std.proofs.Common.{◌≡◌, refl, sym, ap, ◌∙◌, ℕ, zero, suc, List, [], ◌∷◌, true, false, cond, map, find, is_some, Option, Some, None, slice_get, slice_set, true≢false}
use Rattle.std.specs.List.{list_any, list_all}
use Rattle.std.proofs.lemmas.Bool.{false_from_ne_true}
use Rattle.dag_check.specs.Graphs.{Dag}
use Rattle.sched_state.specs.Lists.{same, insert_by}
use Rattle.sched_state.specs.declared.graphs.LoadedGraph.{LoadedGraph}
use Rattle.sched_state.specs.declared.runs.Run.{Run}
use Rattle.sched_state.proofs.OrderLemmas.{and_left, and_right}
use Rattle.sched_state.proofs.NameLemmas.{same_is, find_any}
use Rattle.sched_model.specs.Lists.{rises}
use Rattle.sched_model.specs.Schedule.{Schedule, graph_before, has_runs}
use Rattle.sched_model.specs.Changes.{with_text, reloaded, new_graph, with_graph}
use Rattle.sched_model.specs.Sound.{IsSound, is_sound_run}
use Rattle.sched_laws.proofs.ListLemmas.{all_get, all_impl}
use Rattle.sched_laws.proofs.GraphLemmas.{reloaded_other}
use Rattle.sched_laws.proofs.LoadLemmas.{before_apart, others_stay, reloaded_named}

-- a known graph takes the text in at its place, and all others stay
pub replaced_at : (text : List ℕ) (dag : Dag) (gs : List LoadedGraph) (i : ℕ) (g : LoadedGraph) → slice_get gs i ≡ Some g → same g.dag.spec.dag_id dag.spec.dag_id ≡ true → rises graph_before gs ≡ true
    → map (reloaded text dag) gs ≡ slice_set gs i (with_text text dag g)
replaced_at text dag [] i g at named order = absurd (let c : ◌≡◌ {A = Option LoadedGraph} None (Some g) = at in cc)
replaced_at text dag (h ∷ hs) zero g at named order =
    let c : ◌≡◌ {A = Option LoadedGraph} (Some h) (Some g) = at in
    let is : h ≡ g = cc in
    let here : same h.dag.spec.dag_id dag.spec.dag_id ≡ true = ap (λ (k : LoadedGraph). same k.dag.spec.dag_id dag.spec.dag_id) is ∙ named in
    ap (λ k. k ∷ map (reloaded text dag) hs) (reloaded_named text dag h here ∙ ap (with_text text dag) is)
    ∙ ap (λ ks. with_text text dag g ∷ ks) (others_stay text dag h here hs (and_left (list_all (graph_before h) hs) _ order))
replaced_at text dag (h ∷ hs) (suc i) g at named order =
    let before : graph_before h g ≡ true = all_get (graph_before h) hs i g (and_left (list_all (graph_before h) hs) _ order) at in
    let apart : same h.dag.spec.dag_id dag.spec.dag_id ≡ false = ap (same h.dag.spec.dag_id) (sym (same_is g.dag.spec.dag_id dag.spec.dag_id named)) ∙ before_apart h g before in
    ap (λ k. k ∷ map (reloaded text dag) hs) (reloaded_other text dag h apart)
    ∙ ap (λ ks. h ∷ ks) (replaced_at text dag hs i g at named (and_right (list_all (graph_before h) hs) _ order))

-- what is put where it stands already changes nothing
pub set_there : {X : Type 0} (xs : List X) (i : ℕ) (x : X) → slice_get xs i ≡ Some x → slice_set xs i x ≡ xs
set_there {X} [] i x e = absurd (let c : ◌≡◌ {A = Option X} None (Some x) = e in cc)
set_there {X} (y ∷ ys) zero x e = let c : ◌≡◌ {A = Option X} (Some y) (Some x) = e in let is : y ≡ x = cc in ap (λ z. z ∷ ys) (sym is)
set_there (y ∷ ys) (suc i) x e = ap (λ zs. y ∷ zs) (set_there ys i x e)

-- which of the two happens
pub with_known : (text : List ℕ) (dag : Dag) (gs : List LoadedGraph) → list_any (λ (g : LoadedGraph). same g.dag.spec.dag_id dag.spec.dag_id) gs ≡ true → with_graph text dag gs ≡ map (reloaded text dag) gs
with_known text dag gs known =
    elim (find (λ (g : LoadedGraph). same g.dag.spec.dag_id dag.spec.dag_id) gs) as (λ o. is_some o ≡ true → (elim o as (λ p. List LoadedGraph) [
      | Some g ↦ map (reloaded text dag) gs
      | None ↦ insert_by graph_before (new_graph text dag) gs
    ]) ≡ map (reloaded text dag) gs) [
      | Some g ↦ λ e. refl
      | None ↦ λ e. absurd (true≢false (sym e))
    ] (find_any (λ (g : LoadedGraph). same g.dag.spec.dag_id dag.spec.dag_id) gs ∙ known)

pub with_unknown : (text : List ℕ) (dag : Dag) (gs : List LoadedGraph) → list_any (λ (g : LoadedGraph). same g.dag.spec.dag_id dag.spec.dag_id) gs ≡ false → with_graph text dag gs ≡ insert_by graph_before (new_graph text dag) gs
with_unknown text dag gs unknown =
    elim (find (λ (g : LoadedGraph). same g.dag.spec.dag_id dag.spec.dag_id) gs) as (λ o. is_some o ≡ false → (elim o as (λ p. List LoadedGraph) [
      | Some g ↦ map (reloaded text dag) gs
      | None ↦ insert_by graph_before (new_graph text dag) gs
    ]) ≡ insert_by graph_before (new_graph text dag) gs) [
      | Some g ↦ λ e. absurd (true≢false e)
      | None ↦ λ e. refl
    ] (find_any (λ (g : LoadedGraph). same g.dag.spec.dag_id dag.spec.dag_id) gs ∙ unknown)

-- the graph at a place is the one that is found
pub found_at : (id : List ℕ) (gs : List LoadedGraph) (i : ℕ) (g : LoadedGraph) → slice_get gs i ≡ Some g → same g.dag.spec.dag_id id ≡ true → rises graph_before gs ≡ true
    → find (λ (h : LoadedGraph). same h.dag.spec.dag_id id) gs ≡ Some g
found_at id [] i g at named order = absurd (let c : ◌≡◌ {A = Option LoadedGraph} None (Some g) = at in cc)
found_at id (h ∷ hs) zero g at named order =
    let c : ◌≡◌ {A = Option LoadedGraph} (Some h) (Some g) = at in
    let is : h ≡ g = cc in
    ap (λ b. cond b (Some h) (find (λ (k : LoadedGraph). same k.dag.spec.dag_id id) hs)) (ap (λ (k : LoadedGraph). same k.dag.spec.dag_id id) is ∙ named) ∙ ap (λ k. Some k) is
found_at id (h ∷ hs) (suc i) g at named order =
    let before : graph_before h g ≡ true = all_get (graph_before h) hs i g (and_left (list_all (graph_before h) hs) _ order) at in
    let apart : same h.dag.spec.dag_id id ≡ false = ap (same h.dag.spec.dag_id) (sym (same_is g.dag.spec.dag_id id named)) ∙ before_apart h g before in
    ap (λ b. cond b (Some h) (find (λ (k : LoadedGraph). same k.dag.spec.dag_id id) hs)) apart ∙ found_at id hs i g at named (and_right (list_all (graph_before h) hs) _ order)

-- no run is of a graph that is not there
none_known : (gs : List LoadedGraph) (id : List ℕ) → list_any (λ (g : LoadedGraph). same g.dag.spec.dag_id id) gs ≡ false → (rs : List Run)
    → list_all (λ (r : Run). is_some (find (λ (g : LoadedGraph). same g.dag.spec.dag_id r.graph) gs)) rs ≡ true → list_any (λ (r : Run). same r.graph id) rs ≡ false
none_known gs id unknown [] known = refl
none_known gs id unknown (r ∷ rs) known =
    let here : same r.graph id ≡ false = false_from_ne_true _ (λ e. true≢false (
    sym (and_left (is_some (find (λ (g : LoadedGraph). same g.dag.spec.dag_id r.graph) gs)) _ known)
    ∙ (find_any (λ (g : LoadedGraph). same g.dag.spec.dag_id r.graph) gs
    ∙ (ap (λ n. list_any (λ (g : LoadedGraph). same g.dag.spec.dag_id n) gs) (same_is r.graph id e) ∙ unknown)))) in
    let rest : list_any (λ (q : Run). same q.graph id) rs ≡ false = none_known gs id unknown rs (and_right (is_some (find (λ (g : LoadedGraph). same g.dag.spec.dag_id r.graph) gs)) _ known) in
    rw (here, rest) refl

sound_known : (gs : List LoadedGraph) (r : Run) → is_sound_run gs r ≡ true → is_some (find (λ (g : LoadedGraph). same g.dag.spec.dag_id r.graph) gs) ≡ true
sound_known gs r e = and_left (is_some (find (λ (g : LoadedGraph). same g.dag.spec.dag_id r.graph) gs)) _ e

pub unknown_no_runs : (a : Schedule) (id : List ℕ) → IsSound a → list_any (λ (g : LoadedGraph). same g.dag.spec.dag_id id) a.graphs ≡ false → has_runs a id ≡ false
unknown_no_runs a id s unknown = none_known a.graphs id unknown a.runs (all_impl (is_sound_run a.graphs) (λ (r : Run). is_some (find (λ (g : LoadedGraph). same g.dag.spec.dag_id r.graph) a.graphs)) (sound_known a.graphs) a.runs s.runs)
