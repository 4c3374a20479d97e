-- Shelves stay beside their graphs: where a graph is put in, replaced or paused, and after an effect.
use Rattle.std.proofs.Common.{◌≡◌, ◌∙◌, refl, sym, ap, subst, ℕ, zero, suc, ◌+◌, ◌<◌, ◌≤◌, List, [], ◌∷◌, ◌++◌, Bool, true, false, length, map, take, drop, insert, Some, option_map, slice_get, slice_set, true≢false, arith}
use Rattle.std.specs.List.{list_any}
use Rattle.std.proofs.lemmas.List.{length-map}
use Rattle.std.proofs.lemmas.Option.{same_Some, slice_get-map, slice_get_within}
use Rattle.graph_file.specs.declared.task_specs.TaskSpec.{TaskSpec}
use Rattle.dag_check.specs.Graphs.{Dag}
use Rattle.sched_state.specs.Lists.{same}
use Rattle.sched_state.specs.declared.graphs.LoadedGraph.{LoadedGraph}
use Rattle.sched_state.specs.declared.runs.Run.{Run}
use Rattle.sched_state.proofs.ElementLemmas.{element_at}
use Rattle.sched_model.specs.Changes.{pause_graph}
use Rattle.sched_model.specs.Schedule.{Schedule}
use Rattle.sched_laws.proofs.GraphLemmas.{paused_dag}
use Rattle.record_writing.proofs.KeyLemmas.{any_get}
use Rattle.sched_ready.specs.Held.{AreShelvesOf, FitsShelf, HoldsPlace, IsLater}
use Rattle.sched_ready.specs.Shelves.{ShelfValue}
use Rattle.sched_ready.specs.declared.queues.Queue.{Queue}
use Rattle.sched_core.specs.Effects.{HoldsAfter}
use Rattle.sched_core.specs.Inside.{IsOver, LeavesDags, drafted}
use Rattle.sched_core.specs.declared.changes.GraphChange.{GraphChange}
use Rattle.sched_core.specs.declared.changes.GraphChange.TheVariants as graphs

-- ---- one shelf
pub record IsShelfOf (now : ℕ) (rs : List Run) (g : LoadedGraph) (s : ShelfValue) : Type 0 where
  pub fits : FitsShelf g.dag s
  pub held : (p : ℕ) (t : TaskSpec) (q : Queue) → slice_get g.dag.tasks p ≡ Some t → slice_get s.queues p ≡ Some q → HoldsPlace now rs g.dag.spec.dag_id t p q

-- each graph has its own
pub record AreBeside (now : ℕ) (gs : List LoadedGraph) (rs : List Run) (ss : List ShelfValue) : Type 0 where
  pub long : length ss ≡ length gs
  pub each : (n : ℕ) (g : LoadedGraph) (s : ShelfValue) → slice_get gs n ≡ Some g → slice_get ss n ≡ Some s → IsShelfOf now rs g s

pub beside : (now : ℕ) (gs : List LoadedGraph) (rs : List Run) (ss : List ShelfValue) → AreShelvesOf now gs rs ss → AreBeside now gs rs ss
beside now gs rs ss h = record { long = h.fit.long; each = λ n g s e f. record { fits = h.fit.fits n g s e f; held = λ p t q i j. h.held n p g s t q e f i j } }

pub from_beside : (now : ℕ) (gs : List LoadedGraph) (rs : List Run) (ss : List ShelfValue) → AreBeside now gs rs ss → AreShelvesOf now gs rs ss
from_beside now gs rs ss h = record {
  fit = record { long = h.long; fits = λ n g s e f. (h.each n g s e f).fits };
  held = λ n p g s t q e f i j. (h.each n g s e f).held p t q i j;
}

-- of a graph without runs nothing is due
pub quiet_shelf : (now : ℕ) (rs : List Run) (g : LoadedGraph) (s : ShelfValue) → FitsShelf g.dag s → list_any (λ (r : Run). same r.graph g.dag.spec.dag_id) rs ≡ false → IsShelfOf now rs g s
quiet_shelf now rs g s fits none = record {
  fits = fits;
  held = λ p t q i j n m r there of_graph due. absurd (true≢false (sym (any_get (λ (x : Run). same x.graph g.dag.spec.dag_id) rs n r there of_graph) ∙ none));
}

-- ---- one graph before the others
first : (now : ℕ) (g : LoadedGraph) (s : ShelfValue) (gs : List LoadedGraph) (rs : List Run) (ss : List ShelfValue) → AreBeside now (g ∷ gs) rs (s ∷ ss) → IsShelfOf now rs g s
first now g s gs rs ss h = h.each 0 g s refl refl

rest : (now : ℕ) (g : LoadedGraph) (s : ShelfValue) (gs : List LoadedGraph) (rs : List Run) (ss : List ShelfValue) → AreBeside now (g ∷ gs) rs (s ∷ ss) → AreBeside now gs rs ss
rest now g s gs rs ss h = record { long = omega (arith, h.long); each = λ n k t e f. h.each (suc n) k t e f }

before : (now : ℕ) (g : LoadedGraph) (s : ShelfValue) (gs : List LoadedGraph) (rs : List Run) (ss : List ShelfValue) → IsShelfOf now rs g s → AreBeside now gs rs ss → AreBeside now (g ∷ gs) rs (s ∷ ss)
before now g s gs rs ss one more = record { long = ap suc more.long; each = at }
  where
    at : (n : ℕ) (k : LoadedGraph) (t : ShelfValue) → slice_get (g ∷ gs) n ≡ Some k → slice_get (s ∷ ss) n ≡ Some t → IsShelfOf now rs k t
    at zero k t e f = subst (λ (x : LoadedGraph). IsShelfOf now rs x t) (same_Some g k e) (subst (IsShelfOf now rs g) (same_Some s t f) one)
    at (suc n) k t e f = more.each n k t e f

-- ---- a graph that is replaced, and one that is put in
pub shelves_set : (now : ℕ) (gs : List LoadedGraph) (rs : List Run) (ss : List ShelfValue) (i : ℕ) (g : LoadedGraph) (s : ShelfValue) → i < length gs → AreBeside now gs rs ss → IsShelfOf now rs g s → AreBeside now (slice_set gs i g) rs (slice_set ss i s)
shelves_set now [] rs ss i g s b h new = absurd (omega (arith, b))
shelves_set now (k ∷ gs) rs [] i g s b h new = absurd (omega (arith, h.long))
shelves_set now (k ∷ gs) rs (t ∷ ss) zero g s b h new = before now g s gs rs ss new (rest now k t gs rs ss h)
shelves_set now (k ∷ gs) rs (t ∷ ss) (suc i) g s b h new =
    before now k t (slice_set gs i g) rs (slice_set ss i s) (first now k t gs rs ss h) (shelves_set now gs rs ss i g s (omega (arith, b)) (rest now k t gs rs ss h) new)

shelves_put : (now : ℕ) (gs : List LoadedGraph) (rs : List Run) (ss : List ShelfValue) (i : ℕ) (g : LoadedGraph) (s : ShelfValue) → i ≤ length gs → AreBeside now gs rs ss → IsShelfOf now rs g s
    → AreBeside now (take i gs ++ (g ∷ drop i gs)) rs (take i ss ++ (s ∷ drop i ss))
shelves_put now [] rs [] zero g s b h new = before now g s [] rs [] new h
shelves_put now [] rs [] (suc i) g s b h new = absurd (omega (arith, b))
shelves_put now [] rs (t ∷ ss) i g s b h new = absurd (omega (arith, h.long))
shelves_put now (k ∷ gs) rs [] i g s b h new = absurd (omega (arith, h.long))
shelves_put now (k ∷ gs) rs (t ∷ ss) zero g s b h new = before now g s (k ∷ gs) rs (t ∷ ss) new h
shelves_put now (k ∷ gs) rs (t ∷ ss) (suc i) g s b h new =
    before now k t (take i gs ++ (g ∷ drop i gs)) rs (take i ss ++ (s ∷ drop i ss)) (first now k t gs rs ss h) (shelves_put now gs rs ss i g s (omega (arith, b)) (rest now k t gs rs ss h) new)

pub shelves_insert : (now : ℕ) (gs : List LoadedGraph) (rs : List Run) (ss : List ShelfValue) (i : ℕ) (g : LoadedGraph) (s : ShelfValue) → i ≤ length gs → AreBeside now gs rs ss → IsShelfOf now rs g s
    → AreBeside now (insert gs i g) rs (insert ss i s)
shelves_insert now gs rs ss i g s b h new = shelves_put now gs rs ss i g s b h new

-- ---- graphs with the same tasks
pub shelves_alike : (now : ℕ) (gs hs : List LoadedGraph) (rs : List Run) (ss : List ShelfValue) → length hs ≡ length gs → ((n : ℕ) (g h : LoadedGraph) → slice_get gs n ≡ Some g → slice_get hs n ≡ Some h → h.dag ≡ g.dag) → AreShelvesOf now gs rs ss → AreShelvesOf now hs rs ss
shelves_alike now gs hs rs ss long alike h = record {
  fit = record {
    long = h.fit.long ∙ sym long;
    fits = λ n k s e f.
        let within = slice_get_within hs n k e in
        let g = element_at gs n (omega (arith, within, long)) in
        subst (λ (d : Dag). FitsShelf d s) (sym (alike n g.0 k g.1 e)) (h.fit.fits n g.0 s g.1 f);
  };
  held = λ n p k s t q e f i j.
      let within = slice_get_within hs n k e in
      let g = element_at gs n (omega (arith, within, long)) in
      let is = alike n g.0 k g.1 e in
      subst (λ (d : Dag). HoldsPlace now rs d.spec.dag_id t p q) (sym is) (h.held n p g.0 s t q g.1 f (ap (λ (d : Dag). slice_get d.tasks p) (sym is) ∙ i) j);
}

-- a change before which tasks and edges stay leaves them
pub drafted_long : (g : GraphChange) (gs : List LoadedGraph) → LeavesDags g → length (drafted g gs) ≡ length gs
drafted_long graphs.Same gs leaves = refl
drafted_long (graphs.Load text dag shelf dates) gs leaves = refl
drafted_long (graphs.Pause id paused) gs leaves = length-map gs (pause_graph id paused)
drafted_long (graphs.Replace graph shelves) gs leaves = absurd leaves

pub drafted_alike : (g : GraphChange) (gs : List LoadedGraph) → LeavesDags g → (n : ℕ) (x y : LoadedGraph) → slice_get gs n ≡ Some x → slice_get (drafted g gs) n ≡ Some y → y.dag ≡ x.dag
drafted_alike graphs.Same gs leaves n x y e f = ap (λ (k : LoadedGraph). k.dag) (sym (same_Some x y (sym e ∙ f)))
drafted_alike (graphs.Load text dag shelf dates) gs leaves n x y e f = ap (λ (k : LoadedGraph). k.dag) (sym (same_Some x y (sym e ∙ f)))
drafted_alike (graphs.Pause id paused) gs leaves n x y e f =
    let is : pause_graph id paused x ≡ y = same_Some (pause_graph id paused x) y (sym (slice_get-map (pause_graph id paused) gs n ∙ ap (option_map (pause_graph id paused)) e) ∙ f) in
    ap (λ (k : LoadedGraph). k.dag) (sym is) ∙ paused_dag id paused x
drafted_alike (graphs.Replace graph shelves) gs leaves n x y e f = absurd leaves

-- what holds before the graphs are changed holds after that
pub holds_after : (g : GraphChange) (now : ℕ) (gs : List LoadedGraph) (rs : List Run) (ss : List ShelfValue) → LeavesDags g → AreShelvesOf now gs rs ss → HoldsAfter g now gs rs ss
holds_after graphs.Same now gs rs ss leaves h = h
holds_after (graphs.Load text dag shelf dates) now gs rs ss leaves h = h
holds_after (graphs.Pause id paused) now gs rs ss leaves h = h
holds_after (graphs.Replace graph shelves) now gs rs ss leaves h = absurd leaves

pub shelves_paused : (id : List ℕ) (paused : Bool) (now : ℕ) (gs : List LoadedGraph) (rs : List Run) (ss : List ShelfValue) → AreShelvesOf now gs rs ss → AreShelvesOf now (map (pause_graph id paused) gs) rs ss
shelves_paused id paused now gs rs ss h = shelves_alike now gs (map (pause_graph id paused) gs) rs ss (drafted_long (graphs.Pause id paused) gs tt) (drafted_alike (graphs.Pause id paused) gs tt) h

-- a draft over a schedule is later
pub later_over : (g : GraphChange) (a b : Schedule) → LeavesDags g → IsOver g a b → a.now ≤ b.now → IsLater a b
later_over g a b leaves over l = record {
  clock = l;
  long = ap (λ (gs : List LoadedGraph). length gs) over.graphs ∙ drafted_long g a.graphs leaves;
  graphs = λ n x y e f. drafted_alike g a.graphs leaves n x y e (ap (λ (gs : List LoadedGraph). slice_get gs n) (sym over.graphs) ∙ f);
}
