-- A text is taken in at its place, for which there is room.
use Rattle.std.proofs.Common.{◌≡◌, refl, sym, ap, ◌∙◌, ℕ, suc, ◌+◌, ◌<◌, ◌≤◌, List, [], ◌∷◌, Bool, true, false, length, map, find, get_or, slice_get, slice_set, Option, Some, None, arith, insert}
use Rattle.std.specs.List.{list_any}
use Rattle.std.proofs.lemmas.List.{length-map}
use Rattle.std.proofs.lemmas.Option.{slice_get-get_or}
use Rattle.dag_check.specs.Graphs.{Dag}
use Rattle.sched_state.specs.Lists.{same, insert_by}
use Rattle.sched_model.specs.Schedule.{graph_before}
use Rattle.sched_state.specs.declared.graphs.LoadedGraph.{LoadedGraph}
use Rattle.sched_model.specs.Changes.{reloaded, taken_in, with_text, new_graph, with_graph}
use Rattle.sched_laws.proofs.LoadLemmas.{text_stays, text_taken}
use Rattle.record_writing.proofs.KeyLemmas.{any_get}
use Rattle.sched_model.specs.Lists.{rises}
use Rattle.sched_core.proofs.GraphLemmas.{replaced_at, set_there, with_known, with_unknown}
use Rattle.sched_core.specs.Inside.{StandsAt, IsPlaceFor}
use Rattle.sched_core.proofs.InsertLemmas.{insert-place}

-- a graph that is there is what the text makes of it
known_with : (text : List ℕ) (dag : Dag) (gs : List LoadedGraph) (i : ℕ) (g : LoadedGraph) → StandsAt dag.spec.dag_id gs i → slice_get gs i ≡ Some g → rises graph_before gs ≡ true
    → with_graph text dag gs ≡ slice_set gs i (with_text text dag g)
known_with text dag gs i g stands at order =
    let c : ◌≡◌ {A = Option LoadedGraph} (Some stands.graph) (Some g) = sym stands.there ∙ at in
    let is : stands.graph ≡ g = cc in
    let named : same g.dag.spec.dag_id dag.spec.dag_id ≡ true = ap (λ (k : LoadedGraph). same k.dag.spec.dag_id dag.spec.dag_id) (sym is) ∙ stands.named in
    let known : list_any (λ (k : LoadedGraph). same k.dag.spec.dag_id dag.spec.dag_id) gs ≡ true = any_get (λ (k : LoadedGraph). same k.dag.spec.dag_id dag.spec.dag_id) gs i g at named in
    with_known text dag gs known ∙ replaced_at text dag gs i g at named order

there : (gs : List LoadedGraph) (i : ℕ) (g : LoadedGraph) → i < length gs → g ≡ get_or gs i g → slice_get gs i ≡ Some g
there gs i g below read = slice_get-get_or gs i g below ∙ ap (λ x. Some x) (sym read)

-- what is read there twice is one graph
pub one_there : (gs : List LoadedGraph) (i : ℕ) (g h : LoadedGraph) → i < length gs → g ≡ get_or gs i g → h ≡ get_or gs i h → g ≡ h
one_there gs i g h below read again = let c : ◌≡◌ {A = Option LoadedGraph} (Some g) (Some h) = sym (there gs i g below read) ∙ there gs i h below again in cc

-- another text is taken in
pub taken_known : (text : List ℕ) (dag : Dag) (gs : List LoadedGraph) (i : ℕ) (g : LoadedGraph) → StandsAt dag.spec.dag_id gs i → g ≡ get_or gs i g → rises graph_before gs ≡ true → same g.text text ≡ false
    → slice_set gs i (taken_in text dag g) ≡ with_graph text dag gs
taken_known text dag gs i g stands read order other =
    sym (known_with text dag gs i g stands (there gs i g stands.below read) order ∙ ap (slice_set gs i) (text_taken text dag g other))

-- the text that it has changes nothing
pub kept_known : (text : List ℕ) (dag : Dag) (gs : List LoadedGraph) (i : ℕ) (g : LoadedGraph) → StandsAt dag.spec.dag_id gs i → g ≡ get_or gs i g → rises graph_before gs ≡ true → same g.text text ≡ true
    → gs ≡ with_graph text dag gs
kept_known text dag gs i g stands read order alike =
    let at : slice_get gs i ≡ Some g = there gs i g stands.below read in
    sym (known_with text dag gs i g stands at order ∙ (ap (slice_set gs i) (text_stays text dag g alike) ∙ set_there gs i g at))

pub taken_new : (text : List ℕ) (dag : Dag) (gs : List LoadedGraph) (i : ℕ) → list_any (λ (k : LoadedGraph). same k.dag.spec.dag_id dag.spec.dag_id) gs ≡ false
    → IsPlaceFor graph_before (new_graph text dag) gs i → insert gs i (new_graph text dag) ≡ with_graph text dag gs
taken_new text dag gs i unknown place = insert-place graph_before (new_graph text dag) gs i place ∙ sym (with_unknown text dag gs unknown)

length-insert_by : {X : Type 0} (before : X → X → Bool) (x : X) (xs : List X) → length (insert_by before x xs) ≡ suc (length xs)
length-insert_by before x [] = refl
length-insert_by {X} before x (y ∷ ys) = elim (before x y) as (λ b. length (elim b as (λ d. List X) [ true ↦ x ∷ y ∷ ys | false ↦ y ∷ insert_by before x ys ]) ≡ suc (suc (length ys))) [
  | true ↦ refl
  | false ↦ ap suc (length-insert_by before x ys)
]

pub length-new : (text : List ℕ) (dag : Dag) (gs : List LoadedGraph) → list_any (λ (k : LoadedGraph). same k.dag.spec.dag_id dag.spec.dag_id) gs ≡ false → length (with_graph text dag gs) ≡ length gs + 1
length-new text dag gs unknown = ap length (with_unknown text dag gs unknown) ∙ (length-insert_by graph_before (new_graph text dag) gs ∙ omega arith)

-- at most one graph is added
pub length-with_graph : (text : List ℕ) (dag : Dag) (gs : List LoadedGraph) → length (with_graph text dag gs) ≤ length gs + 1
length-with_graph text dag gs =
    elim (find (λ (g : LoadedGraph). same g.dag.spec.dag_id dag.spec.dag_id) gs) as (λ o. length (elim o as (λ p. List LoadedGraph) [
      | Some g ↦ map (reloaded text dag) gs
      | None ↦ insert_by graph_before (new_graph text dag) gs
    ]) ≤ length gs + 1) [
      | Some g ↦ omega (arith, length-map gs (reloaded text dag))
      | None ↦ omega (arith, length-insert_by graph_before (new_graph text dag) gs)
    ]
