-- The dates that come in are those of the definitions.
use Rattle.std.proofs.Common.{◌≡◌, ◌∙◌, ◌⊎◌, inl, inr, refl, sym, ap, subst, ℕ, zero, suc, ◌<◌, List, [], ◌∷◌, ◌++◌, length, true, Option, Some, None, IfSome, is_none, option_and_then, option_map, get_or, slice_get, arith}
use Rattle.std.proofs.lemmas.Option.{slice_get_read}
use Rattle.std.specs.List.{list_any}
use Rattle.dag_check.specs.Graphs.{Dag}
use Rattle.run_planner.specs.Index.{Index, has_date}
use Rattle.sched_state.specs.declared.graphs.LoadedGraph.{LoadedGraph}
use Rattle.sched_state.specs.declared.runs.Run.{Run}
use Rattle.sched_model.specs.Causes.{is_unknown_graph}
use Rattle.sched_model.specs.Schedule.{Schedule, dates_of, graph_named, is_at}
use Rattle.sched_laws.proofs.NamedLemmas.{filtered_date}
use Rattle.sched_laws.proofs.SettleLemmas.{map_some}
use Rattle.sched_creation.specs.Dates.{HasDates, HaveDates}

pub alike_dates : (a : Schedule) (id : List ℕ) (index : Index) → HasDates id a.runs index → (d : ℕ) → has_date index.dates d ≡ has_date (dates_of a id) d
alike_dates a id index h d = h d ∙ sym (filtered_date id d a.runs)

-- those of the graph at a position
pub dates_at : (gs : List LoadedGraph) (rs : List Run) (all : List Index) (n : ℕ) (dag : Dag) (index : Index) → HaveDates gs rs all → option_map (λ (g : LoadedGraph). g.dag) (slice_get gs n) ≡ Some dag
    → slice_get all n ≡ Some index → HasDates dag.spec.dag_id rs index
dates_at gs rs all n dag index h tasks there =
    let k = map_some (λ (g : LoadedGraph). g.dag) (slice_get gs n) dag tasks in
    subst (λ (d : Dag). HasDates d.spec.dag_id rs index) k.2 (h.each n k.0 index k.1 there)

-- those that are computed are such
pub computed_dates : (a : Schedule) (n : ℕ) (g : LoadedGraph) (dag : Dag) (index : Index) → slice_get a.graphs n ≡ Some g → option_map (λ (k : LoadedGraph). k.dag) (slice_get a.graphs n) ≡ Some dag
    → ((d : ℕ) → has_date index.dates d ≡ has_date (dates_of a dag.spec.dag_id) d) → HasDates g.dag.spec.dag_id a.runs index
computed_dates a n g dag index there tasks alike d =
    let c : ◌≡◌ {A = Option Dag} (Some g.dag) (Some dag) = sym (ap (option_map (λ (k : LoadedGraph). k.dag)) there) ∙ tasks in
    let is : dag ≡ g.dag = cc in
    subst (λ (k : Dag). has_date index.dates d ≡ list_any (is_at k.spec.dag_id d) a.runs) is (alike d ∙ filtered_date dag.spec.dag_id d a.runs)

-- the graph at the position of an id is that of the id
pub at_position : (a : Schedule) (id : List ℕ) (o : Option ℕ) (p : ℕ) (dag : Dag) → o ≡ Some p → option_and_then (slice_get a.graphs) o ≡ graph_named a id → option_map (λ (k : LoadedGraph). k.dag) (slice_get a.graphs p) ≡ Some dag
    → option_map (λ (k : LoadedGraph). k.dag) (graph_named a id) ≡ Some dag
at_position a id o p dag is there tasks = ap (option_map (λ (k : LoadedGraph). k.dag)) (sym (ap (option_and_then (slice_get a.graphs)) (sym is) ∙ there)) ∙ tasks

pub no_position : (a : Schedule) (id : List ℕ) (o : Option ℕ) → o ≡ None → option_and_then (slice_get a.graphs) o ≡ graph_named a id → is_unknown_graph a id ≡ true
no_position a id o is there = ap is_none (sym (ap (option_and_then (slice_get a.graphs)) (sym is) ∙ there))

-- and its index has the dates of its runs
pub dates_there : (a : Schedule) (all : List Index) (o : Option ℕ) (p : ℕ) (dag : Dag) (index : Index) → HaveDates a.graphs a.runs all → o ≡ Some p → IfSome o (λ n. n < length a.graphs) → option_map (λ (k : LoadedGraph). k.dag) (slice_get a.graphs p) ≡ Some dag
    → index ≡ get_or all p index → HasDates dag.spec.dag_id a.runs index
dates_there a all o p dag index h is within tasks read =
    let low : p < length a.graphs = subst (λ q. IfSome q (λ n. n < length a.graphs)) is within in
    dates_at a.graphs a.runs all p dag index h tasks (slice_get_read all (length all) p index refl (omega (arith, low, h.long)) read)

-- ---- one graph's dates after the others
last_get : {X : Type 0} (xs : List X) (y z : X) (n : ℕ) → slice_get (xs ++ y ∷ []) n ≡ Some z → (slice_get xs n ≡ Some z) ⊎ ((n ≡ length xs) × (y ≡ z))
last_get {X} [] y z zero e = let c : ◌≡◌ {A = Option X} (Some y) (Some z) = e in inr (refl, cc)
last_get {X} [] y z (suc n) e = absurd (let c : ◌≡◌ {A = Option X} None (Some z) = e in cc)
last_get (x ∷ xs) y z zero e = inl e
last_get (x ∷ xs) y z (suc n) e = elim (last_get xs y z n e) [
  | inl h ↦ inl h
  | inr h ↦ inr (ap suc h.0, h.1)
]

pub dates_pushed : (a : Schedule) (all : List Index) (k : ℕ) (dag : Dag) (index : Index) → length all ≡ k → option_map (λ (g : LoadedGraph). g.dag) (slice_get a.graphs k) ≡ Some dag
    → ((d : ℕ) → has_date index.dates d ≡ has_date (dates_of a dag.spec.dag_id) d) → ((n : ℕ) (g : LoadedGraph) (x : Index) → slice_get a.graphs n ≡ Some g → slice_get all n ≡ Some x → HasDates g.dag.spec.dag_id a.runs x)
    → (n : ℕ) (g : LoadedGraph) (x : Index) → slice_get a.graphs n ≡ Some g → slice_get (all ++ index ∷ []) n ≡ Some x → HasDates g.dag.spec.dag_id a.runs x
dates_pushed a all k dag index long tasks alike so_far n g x there now = elim (last_get all index x n now) [
  | inl old ↦ so_far n g x there old
  | inr h ↦
      let e : n ≡ k = h.0 ∙ long in
      subst (λ (v : Index). HasDates g.dag.spec.dag_id a.runs v) h.1 (computed_dates a k g dag index (ap (slice_get a.graphs) (sym e) ∙ there) tasks alike)
]
