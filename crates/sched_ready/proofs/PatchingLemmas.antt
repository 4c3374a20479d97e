-- Patches, as one run after another is taken in.
use Rattle.std.proofs.Common.{◌≡◌, ◌≢◌, ◌∙◌, ◌⊎◌, inl, inr, refl, sym, ap, subst, ℕ, zero, suc, ◌+◌, ◌<◌, ◌≤◌, List, [], ◌∷◌, ◌++◌, Bool, true, false, not, ◌&&◌, ◌||◌, cond, find, get_or, length, position, true≢false, Option, Some, None, slice_get, nat_le, nat_eq, arith}
use Rattle.std.proofs.Math.ListN.{set}
use Rattle.std.proofs.lemmas.Bool.{eqb-true, eq-eqb, not_from_false, or_cases}
use Rattle.std.proofs.lemmas.List.{length-set}
use Rattle.std.proofs.lemmas.List.Quantifiers.{position-Some}
use Rattle.std.proofs.lemmas.Option.{get_or_from_slice_get, none-some, same_Some, slice_get_within}
use Rattle.std.specs.Global.{Vec}
use Rattle.std.specs.List.{list_any}
use Rattle.std.specs.Option.{MatchOption}
use Rattle.graph_file.proofs.ListLemmas.{none_placed}
use Rattle.graph_file.specs.declared.task_specs.TaskSpec.{TaskSpec}
use Rattle.dag_check.specs.Graphs.{Dag}
use Rattle.dag_check.specs.Orders.{is_in}
use Rattle.sched_draft.specs.run_lists.Overlays.{AreAllTouched}
use Rattle.sched_draft.proofs.SearchLemmas.{graph_id, graph_key, one_place, unfound}
use Rattle.sched_model.specs.Schedule.{Schedule, graph_among, is_at}
use Rattle.sched_model.specs.Sound.{IsSound}
use Rattle.sched_model.specs.sched_state.Lists.{same}
use Rattle.sched_model.specs.sched_state.declared.graphs.LoadedGraph.{LoadedGraph}
use Rattle.sched_model.specs.sched_state.declared.runs.Run.{Run}
use Rattle.sched_model.proofs.sched_state.ElementLemmas.{element_at}
use Rattle.sched_model.proofs.sched_state.NameLemmas.{find_passes, same_is, same_itself}
use Rattle.sched_model.proofs.sched_state.OrderLemmas.{and_left, and_right, not_false}
use Rattle.sched_laws.proofs.DecisionLemmas.{by_bool}
use Rattle.std.proofs.lemmas.Cmp.{nat_list_cmp_total}
use Rattle.sched_laws.proofs.KeyLemmas.{date_once}
use Rattle.sched_ready.specs.Due.{due_at, is_kept}
use Rattle.sched_ready.specs.Held.{AreShelvesOf, FitShelves, FitsShelf, HoldsPlace, IsLater}
use Rattle.sched_ready.specs.Patched.{ArePatches, WasDue, is_patched, is_put}
use Rattle.sched_ready.specs.Patching.{AreAhead, AreFirstPatches, AreMoved, AreNone, AreOfOthers, ArePatchesOn, ArePlacesPatched, AreShelvesBefore, HoldsOn, IsAhead, IsBefore, IsChanging, IsDueAsBefore, IsGraphStillOn, IsMoved, IsOfGraph, IsPatchOf, IsPlaceOn, IsPlacePatched, IsStillOn, IsTableOn, IsTurned, KeepsAll, TakesIn, and_run, due_before, is_of, is_of_if}
use Rattle.sched_ready.specs.Shelves.{ShelfValue}
use Rattle.sched_ready.specs.declared.patches.Patch.{Patch}
use Rattle.sched_ready.specs.declared.queues.Queue.{Queue}
use Rattle.sched_ready.proofs.LeadLemmas.{get_first, get_last, get_set_other, get_set_same}
use Rattle.sched_ready.proofs.PlaceLemmas.{own_key, side, touched_within, was_at}

-- ---- these runs, and one more
one_more : (P : ℕ → Bool) (j n : ℕ) → and_run P j n ≡ true → (P n ≡ true) ⊎ (n ≡ j)
one_more P j n e = elim (or_cases (P n) (nat_eq n j) e) [ inl i ↦ inl i | inr i ↦ inr (eqb-true n j i) ]

same_run : (b : Schedule) (j n : ℕ) (r q : Run) → n ≡ j → slice_get b.runs j ≡ Some r → slice_get b.runs n ≡ Some q → r ≡ q
same_run b j n r q e f g = same_Some r q (sym f ∙ (ap (slice_get b.runs) (sym e) ∙ g))

-- ---- one place
-- the queue that changes holds what is due in the runs
changing_holds : (P : ℕ → Bool) (a b : Schedule) (id : List ℕ) (t : TaskSpec) (p : ℕ) (old w : Queue) (was due : Option ℕ) (o : Option Queue) → a.now ≤ b.now → HoldsPlace a.now a.runs id t p old → IsPlaceOn P a b id t p old o → IsChanging b.now old was due o (Some w) → HoldsOn P b id t p w
changing_holds P a b id t p old w was due (Some x) l held on is = subst (HoldsOn P b id t p) (sym is) on
changing_holds P a b id t p old w was due None l held on is = λ n m r at there of_graph d.
    let k = on.due n m r at there of_graph d in
    let graph : k.run.graph ≡ r.graph = same_is k.run.graph r.graph (and_left _ _ k.key) in
    let date : k.run.logical ≡ r.logical = eqb-true k.run.logical r.logical (and_right (same k.run.graph r.graph) _ k.key) in
    let kept : is_kept a.now old k.run.logical m ≡ true = held k.position m k.run k.run_is (ap (λ g. same g id) graph ∙ of_graph) k.due in
    is a.now r.logical m l (ap (λ d. is_kept a.now old d m) (sym date) ∙ kept)

was_due : (a : Schedule) (r : Run) (before : Option Run) (t : TaskSpec) (p m : ℕ) → IsBefore a r before → due_before before t p ≡ Some m → WasDue a r.graph r.logical t p m
was_due a r None t p m h e = absurd (none-some m e)
was_due a r (Some q) t p m h e = let k = h q refl in record { position = k.0; run = q; run_is = k.1.0; key = k.1.1; due = e }

-- a place takes the run in
place_on : (P : ℕ → Bool) (a b : Schedule) (j : ℕ) (r : Run) (before : Option Run) (id : List ℕ) (t : TaskSpec) (p : ℕ) (old : Queue) (o n : Option Queue)
    → IsSound b → slice_get b.runs j ≡ Some r → same r.graph id ≡ true → a.now ≤ b.now → HoldsPlace a.now a.runs id t p old → IsBefore a r before
    → IsPlaceOn P a b id t p old o → IsPlacePatched b.now old (due_before before t p) (due_at r t p) r.logical o n → IsPlaceOn (and_run P j) a b id t p old n
place_on P a b j r before id t p old o None sound run_is of_graph l held before_is on is =
    let still : IsStillOn P a b id t p old = subst (IsPlaceOn P a b id t p old) is.0 on in
    record {
      due = λ n m q at there of_it d. elim (one_more P j n at) [
        | inl i ↦ still.due n m q i there of_it d
        | inr i ↦
            let e : r ≡ q = same_run b j n r q i run_is there in
            subst (λ (x : Run). WasDue a x.graph x.logical t p m) e (was_due a r before t p m before_is (is.1 ∙ (ap (λ (x : Run). due_at x t p) e ∙ d)))
      ];
      ahead = still.ahead;
    }
place_on P a b j r before id t p old o (Some new) sound run_is of_graph l held before_is on is = λ n m q at there of_it d.
    let w : Queue = is.0 in
    let holds : HoldsOn P b id t p w = changing_holds P a b id t p old w (due_before before t p) (due_at r t p) o l held on is.1.0 in
    elim (one_more P j n at) as (λ _. is_kept b.now new q.logical m ≡ true) [
      | inr i ↦ itself n m q there d i
      | inl i ↦ by_bool {C = is_kept b.now new q.logical m ≡ true} (nat_eq q.logical r.logical)
          (λ s.
          let graph : q.graph ≡ r.graph = same_is q.graph id of_it ∙ sym (same_is r.graph id of_graph) in
          itself n m q there d (date_once b n j q r sound there run_is graph (eqb-true q.logical r.logical s)))
          (λ s. is.1.1.kept q.logical m (λ e. true≢false (sym (eq-eqb q.logical r.logical e) ∙ s)) (holds n m q i there of_it d))
    ]
  where
    itself : (n m : ℕ) (q : Run) → slice_get b.runs n ≡ Some q → due_at q t p ≡ Some m → n ≡ j → is_kept b.now new q.logical m ≡ true
    itself n m q there d i =
        let e : r ≡ q = same_run b j n r q i run_is there in
        subst (λ (x : Run). is_kept b.now new x.logical m ≡ true) e (is.1.1.now_due m (ap (λ (x : Run). due_at x t p) e ∙ d))

-- a place of another graph
other_still : (P : ℕ → Bool) (a b : Schedule) (j : ℕ) (r : Run) (id : List ℕ) (t : TaskSpec) (p : ℕ) (q : Queue) → slice_get b.runs j ≡ Some r → same r.graph id ≡ false → IsStillOn P a b id t p q → IsStillOn (and_run P j) a b id t p q
other_still P a b j r id t p q run_is other h = record {
  due = λ n m x at there of_it d. elim (one_more P j n at) [
    | inl i ↦ h.due n m x i there of_it d
    | inr i ↦ absurd (true≢false (sym of_it ∙ (ap (λ (y : Run). same y.graph id) (sym (same_run b j n r x i run_is there)) ∙ other)))
  ];
  ahead = h.ahead;
}

other_place : (P : ℕ → Bool) (a b : Schedule) (j : ℕ) (r : Run) (id : List ℕ) (t : TaskSpec) (p : ℕ) (old : Queue) (o : Option Queue) → slice_get b.runs j ≡ Some r → same r.graph id ≡ false → IsPlaceOn P a b id t p old o → IsPlaceOn (and_run P j) a b id t p old o
other_place P a b j r id t p old None run_is other h = other_still P a b j r id t p old run_is other h
other_place P a b j r id t p old (Some new) run_is other h = λ n m x at there of_it d. elim (one_more P j n at) [
  | inl i ↦ h n m x i there of_it d
  | inr i ↦ absurd (true≢false (sym of_it ∙ (ap (λ (y : Run). same y.graph id) (sym (same_run b j n r x i run_is there)) ∙ other)))
]

-- ---- one graph
other_table : (P : ℕ → Bool) (a b : Schedule) (j : ℕ) (r : Run) (g : Dag) (s : ShelfValue) (os : List (Option Queue)) → slice_get b.runs j ≡ Some r → same r.graph g.spec.dag_id ≡ false → IsTableOn P a b g s os → IsTableOn (and_run P j) a b g s os
other_table P a b j r g s os run_is other h = record {
  long = h.long;
  each = λ p t q o task queue at. other_place P a b j r g.spec.dag_id t p q o run_is other (h.each p t q o task queue at);
}

table_on : (P : ℕ → Bool) (a b : Schedule) (j : ℕ) (r : Run) (before : Option Run) (g : Dag) (s : ShelfValue) (os ns : List (Option Queue))
    → IsSound b → slice_get b.runs j ≡ Some r → same r.graph g.spec.dag_id ≡ true → a.now ≤ b.now → IsBefore a r before
    → ((p : ℕ) (t : TaskSpec) (q : Queue) → slice_get g.tasks p ≡ Some t → slice_get s.queues p ≡ Some q → HoldsPlace a.now a.runs g.spec.dag_id t p q)
    → ArePlacesPatched b.now g s before r os ns → IsTableOn P a b g s os → IsTableOn (and_run P j) a b g s ns
table_on P a b j r before g s os ns sound run_is of_graph l before_is held made h = record {
  long = made.long ∙ h.long;
  each = λ p t q n task queue at.
      let within : p < length ns = slice_get_within ns p n at in
      let o = element_at os p (omega (arith, within, made.long)) in
      place_on P a b j r before g.spec.dag_id t p q o.0 n sound run_is of_graph l (held p t q task queue) before_is (h.each p t q o.0 task queue o.1) (made.each p t q o.0 n task queue o.1 at);
}

-- ---- the graphs
-- the shelf of a graph holds what was due
shelf_held : (a b : Schedule) (ss : List ShelfValue) (n : ℕ) (g : LoadedGraph) (s : ShelfValue) → AreShelvesBefore a b ss → slice_get b.graphs n ≡ Some g → slice_get ss n ≡ Some s
    → FitsShelf g.dag s × ((p : ℕ) (t : TaskSpec) (q : Queue) → slice_get g.dag.tasks p ≡ Some t → slice_get s.queues p ≡ Some q → HoldsPlace a.now a.runs g.dag.spec.dag_id t p q)
shelf_held a b ss n g s h there shelf =
    let within : n < length b.graphs = slice_get_within b.graphs n g there in
    let k = element_at a.graphs n (omega (arith, within, h.later.long)) in
    let dag : g.dag ≡ k.0.dag = h.later.graphs n k.0 g k.1 there in (
      subst (λ (d : Dag). FitsShelf d s) (sym dag) (h.shelves.fit.fits n k.0 s k.1 shelf),
      λ p t q task queue. subst (λ (d : Dag). HoldsPlace a.now a.runs d.spec.dag_id t p q) (sym dag) (h.shelves.held n p k.0 s t q k.1 shelf (ap (λ (d : Dag). slice_get d.tasks p) (sym dag) ∙ task) queue),
    )

-- graphs with one id stand at one place
pub graph_once : (b : Schedule) (m n : ℕ) (g h : LoadedGraph) (id : List ℕ) → IsSound b → slice_get b.graphs m ≡ Some g → slice_get b.graphs n ≡ Some h → same g.dag.spec.dag_id id ≡ true → same h.dag.spec.dag_id id ≡ true → m ≡ n
graph_once b m n g h id sound e f i j = one_place nat_list_cmp_total graph_id (λ (x : LoadedGraph). same x.dag.spec.dag_id id) id (graph_key id) b.graphs m n g h sound.graphs_by_id e f i j

flip : (x y : List ℕ) → same x y ≡ true → same y x ≡ true
flip x y e = ap (same y) (same_is x y e) ∙ same_itself y

-- a run that is of no graph
unknown_on : (P : ℕ → Bool) (a b : Schedule) (ss : List ShelfValue) (j : ℕ) (r : Run) (ps : List Patch) → slice_get b.runs j ≡ Some r → ((n : ℕ) (g : LoadedGraph) → slice_get b.graphs n ≡ Some g → same r.graph g.dag.spec.dag_id ≡ false) → ArePatchesOn P a b ss ps → ArePatchesOn (and_run P j) a b ss ps
unknown_on P a b ss j r ps run_is none h = record {
  once = h.once;
  each = λ k x g s e f i. other_table P a b j r g.dag s x.queues.items run_is (none x.graph g f) (h.each k x g s e f i);
  rest = λ n g s apart e f p t q task queue. other_still P a b j r g.dag.spec.dag_id t p q run_is (none n g e) (h.rest n g s apart e f p t q task queue);
}

pub takes_unknown : (b : Schedule) (ss : List ShelfValue) (j : ℕ) (r : Run) (before : Option Run) (ps : List Patch) → slice_get b.runs j ≡ Some r → graph_among b.graphs r.graph ≡ None → TakesIn b ss j r before ps ps
takes_unknown b ss j r before ps run_is none P a shelves before_is h = unknown_on P a b ss j r ps run_is (λ n g e. by_bool {C = same r.graph g.dag.spec.dag_id ≡ false} (same r.graph g.dag.spec.dag_id)
    (λ f. absurd (true≢false (sym (flip r.graph g.dag.spec.dag_id f) ∙ unfound (λ (x : LoadedGraph). same x.dag.spec.dag_id r.graph) b.graphs none n g e)))
    (λ f. f)) h

-- another graph has another id than the graph of the run
other_id : (b : Schedule) (n m : ℕ) (g f : LoadedGraph) (r : Run) → IsSound b → slice_get b.graphs n ≡ Some g → same g.dag.spec.dag_id r.graph ≡ true → m ≢ n → slice_get b.graphs m ≡ Some f → same r.graph f.dag.spec.dag_id ≡ false
other_id b n m g f r sound graph_is named apart e = by_bool {C = same r.graph f.dag.spec.dag_id ≡ false} (same r.graph f.dag.spec.dag_id)
    (λ i. absurd (apart (graph_once b m n f g r.graph sound e graph_is (flip r.graph f.dag.spec.dag_id i) named)))
    (λ i. i)

-- a run in which the same is due as before, of a graph without a patch
pub takes_same : (b : Schedule) (ss : List ShelfValue) (j : ℕ) (r : Run) (before : Option Run) (ps : List Patch) (n : ℕ) (g : LoadedGraph) (s : ShelfValue)
    → IsSound b → slice_get b.runs j ≡ Some r → slice_get b.graphs n ≡ Some g → same g.dag.spec.dag_id r.graph ≡ true → slice_get ss n ≡ Some s → AreOfOthers n ps → IsDueAsBefore g.dag before r
    → TakesIn b ss j r before ps ps
takes_same b ss j r before ps n g s sound run_is graph_is named shelf_is none due P a shelves before_is h = record {
  once = h.once;
  each = λ k x f u e i l. other_table P a b j r f.dag u x.queues.items run_is (other_id b n x.graph g f r sound graph_is named (none k x e) i) (h.each k x f u e i l);
  rest = λ m f u apart e i p t q task queue. by_bool {C = IsStillOn (and_run P j) a b f.dag.spec.dag_id t p q} (nat_eq m n)
      (λ c.
      let at : m ≡ n = eqb-true m n c in
      let own : g ≡ f = same_Some g f (sym graph_is ∙ (ap (slice_get b.graphs) (sym at) ∙ e)) in
      let shelf : s ≡ u = same_Some s u (sym shelf_is ∙ (ap (slice_get ss) (sym at) ∙ i)) in
      let still : IsStillOn P a b g.dag.spec.dag_id t p q = subst (λ (z : LoadedGraph). IsStillOn P a b z.dag.spec.dag_id t p q) (sym own) (h.rest m f u apart e i p t q task queue) in
      let task_is : slice_get g.dag.tasks p ≡ Some t = ap (λ (z : LoadedGraph). slice_get z.dag.tasks p) own ∙ task in
      let queue_is : slice_get s.queues p ≡ Some q = ap (λ (z : ShelfValue). slice_get z.queues p) shelf ∙ queue in
      let held = (shelf_held a b ss n g s shelves graph_is shelf_is).1 p t q task_is queue_is in
      subst (λ (z : LoadedGraph). IsStillOn (and_run P j) a b z.dag.spec.dag_id t p q) own
      (place_on P a b j r before g.dag.spec.dag_id t p q None None sound run_is (flip g.dag.spec.dag_id r.graph named) shelves.later.clock held before_is still (refl, due p t task_is)))
      (λ c. other_still P a b j r f.dag.spec.dag_id t p q run_is (other_id b n m g f r sound graph_is named (λ k. true≢false (sym (eq-eqb m n k) ∙ c)) e) (h.rest m f u apart e i p t q task queue));
}

-- ---- the patch of the graph
pub once_last : (ps : List Patch) (x : Patch) → AreOfOthers x.graph ps → ((k l : ℕ) (y z : Patch) → slice_get ps k ≡ Some y → slice_get ps l ≡ Some z → y.graph ≡ z.graph → k ≡ l)
    → (k l : ℕ) (y z : Patch) → slice_get (ps ++ x ∷ []) k ≡ Some y → slice_get (ps ++ x ∷ []) l ≡ Some z → y.graph ≡ z.graph → k ≡ l
once_last ps x apart once k l y z e f g = elim (get_last ps x y k e) as (λ _. k ≡ l) [
  | inl i ↦ elim (get_last ps x z l f) as (λ _. k ≡ l) [
    | inl j ↦ once k l y z i j g
    | inr j ↦ absurd (apart k y i (g ∙ ap (λ (v : Patch). v.graph) (sym j.1)))
  ]
  | inr i ↦ elim (get_last ps x z l f) as (λ _. k ≡ l) [
    | inl j ↦ absurd (apart l z j (sym g ∙ ap (λ (v : Patch). v.graph) (sym i.1)))
    | inr j ↦ i.0 ∙ sym j.0
  ]
]

pub others_first : (n : ℕ) (ps : List Patch) (x : Patch) → AreOfOthers n (ps ++ x ∷ []) → AreOfOthers n ps
others_first n ps x h k y e = h k y (get_first ps (x ∷ []) y k e)

-- where the patch of a graph is found
pub patch_found : (n : ℕ) (ps : List Patch) (o : Option ℕ) → o ≡ position (is_of n) ps → MatchOption o (AreOfOthers n ps) (IsOfGraph n ps)
patch_found n ps None e = λ k x f g. true≢false (sym (any_there ps k x f g) ∙ none_placed (is_of n) ps (sym e))
  where
    any_there : (qs : List Patch) (i : ℕ) (x : Patch) → slice_get qs i ≡ Some x → x.graph ≡ n → list_any (is_of n) qs ≡ true
    any_there [] i x h g = absurd (none-some x h)
    any_there (q ∷ qs) zero x h g = ap (λ b. b || list_any (is_of n) qs) (eq-eqb q.graph n (ap (λ (z : Patch). z.graph) (same_Some q x h) ∙ g))
    any_there (q ∷ qs) (suc i) x h g = either (is_of n q) _ (any_there qs i x h g)
      where
        either : (c d : Bool) → d ≡ true → (c || d) ≡ true
        either true d j = refl
        either false d j = j
patch_found n [] (Some i) e = absurd (let c : ◌≡◌ {A = Option ℕ} (Some i) None = e in cc)
patch_found n (p ∷ ps) (Some i) e =
    let f = position-Some (is_of n) (p ∷ ps) i p (sym e) in
    let x = element_at (p ∷ ps) i f.0 in
    let is : get_or (p ∷ ps) i p ≡ x.0 = get_or_from_slice_get (p ∷ ps) i x.0 p x.1 in
    (x.0, (x.1, eqb-true x.0.graph n (ap (is_of n) (sym is) ∙ f.1)))

pub patch_at : (n k : ℕ) (ps : List Patch) → is_of_if n (slice_get ps k) ≡ true → IsOfGraph n ps k
patch_at n k ps h = by (slice_get ps k) refl h
  where
    by : (o : Option Patch) → slice_get ps k ≡ o → is_of_if n o ≡ true → IsOfGraph n ps k
    by None e f = absurd (true≢false (sym f))
    by (Some x) e f = (x, (e, eqb-true x.graph n f))

-- so it is the patch of the graph, which is there or is put behind
pub patch_there : (n places index : ℕ) (ps qs : List Patch) → IsOfGraph n ps index → qs ≡ ps → IsPatchOf n places ps qs index
patch_there n places index ps qs f same = record { patch = f.0; there = ap (λ xs. slice_get xs index) same ∙ f.1.0; graph_is = f.1.1; from = inl same }

pub patch_made : (n places index : ℕ) (ps qs : List Patch) (x : Patch) → AreOfOthers n ps → index ≡ length ps → x.graph ≡ n → length x.queues.items ≡ places → AreNone x.queues.items → qs ≡ ps ++ x ∷ [] → IsPatchOf n places ps qs index
patch_made n places index ps qs x e at own long none now = record {
  patch = x;
  there = ap (λ xs. slice_get xs index) now ∙ (ap (slice_get (ps ++ x ∷ [])) at ∙ behind ps);
  graph_is = own;
  from = inr (e, (now, (long, none)));
}
  where
    behind : (ys : List Patch) → slice_get (ys ++ x ∷ []) (length ys) ≡ Some x
    behind [] = refl
    behind (y ∷ ys) = behind ys

-- with the patch that may have been put behind
made_on : (P : ℕ → Bool) (a b : Schedule) (ss : List ShelfValue) (old new : List Patch) (n index : ℕ) (g : LoadedGraph) → slice_get b.graphs n ≡ Some g → IsPatchOf n (length g.dag.tasks) old new index → ArePatchesOn P a b ss old → ArePatchesOn P a b ss new
made_on P a b ss old new n index g graph_is made h = elim made.from as (λ _. ArePatchesOn P a b ss new) [
  | inl e ↦ subst (ArePatchesOn P a b ss) (sym e) h
  | inr e ↦ subst (ArePatchesOn P a b ss) (sym e.1.0) (behind e.0 e.1.1.0 e.1.1.1)
]
  where
    x : Patch
    x = made.patch

    behind : AreOfOthers n old → length x.queues.items ≡ length g.dag.tasks → AreNone x.queues.items → ArePatchesOn P a b ss (old ++ x ∷ [])
    behind apart long none = record {
      once = once_last old x (subst (λ k. AreOfOthers k old) (sym made.graph_is) apart) h.once;
      each = λ k y f s e i j. elim (get_last old x y k e) as (λ _. IsTableOn P a b f.dag s y.queues.items) [
        | inl l ↦ h.each k y f s l i j
        | inr l ↦ subst (λ (z : Patch). IsTableOn P a b f.dag s z.queues.items) l.1
            (let at : y.graph ≡ n = ap (λ (z : Patch). z.graph) (sym l.1) ∙ made.graph_is in
            fresh f s (ap (slice_get b.graphs) (sym at) ∙ i) (ap (slice_get ss) (sym at) ∙ j))
      ];
      rest = λ m f s others e i. h.rest m f s (others_first m old x others) e i;
    }
      where
        fresh : (f : LoadedGraph) (s : ShelfValue) → slice_get b.graphs n ≡ Some f → slice_get ss n ≡ Some s → IsTableOn P a b f.dag s x.queues.items
        fresh f s i j =
            let is : g ≡ f = same_Some g f (sym graph_is ∙ i) in
            record {
              long = long ∙ ap (λ (z : LoadedGraph). length z.dag.tasks) is;
              each = λ p t q o task queue at. subst (IsPlaceOn P a b f.dag.spec.dag_id t p q) (sym (none p o at)) (h.rest n f s apart i j p t q task queue);
            }

abbrev pub with_table : Patch → Vec (Option Queue) → Patch
with_table x v = record x { queues = v }

set_get : (ps : List Patch) (index : ℕ) (x : Patch) (k : ℕ) (y : Patch) → slice_get (set ps index x) k ≡ Some y → ((k ≡ index) × (x ≡ y)) ⊎ ((k ≢ index) × (slice_get ps k ≡ Some y))
set_get ps index x k y e = by_bool {C = ((k ≡ index) × (x ≡ y)) ⊎ ((k ≢ index) × (slice_get ps k ≡ Some y))} (nat_eq k index)
    (λ s.
    let i : k ≡ index = eqb-true k index s in
    let at : slice_get (set ps index x) index ≡ Some y = ap (slice_get (set ps index x)) (sym i) ∙ e in
    let within : index < length (set ps index x) = slice_get_within (set ps index x) index y at in
    inl (i, same_Some x y (sym (get_set_same ps index x (omega (arith, within, length-set ps index x))) ∙ at)))
    (λ s.
    let apart : k ≢ index = λ i. true≢false (sym (eq-eqb k index i) ∙ s) in
    inr (apart, sym (get_set_other ps index k x apart) ∙ e))

-- the run is taken in
pub takes_run : (b : Schedule) (ss : List ShelfValue) (j : ℕ) (r : Run) (before : Option Run) (old mid : List Patch) (n index : ℕ) (g : LoadedGraph) (s : ShelfValue) (x : Patch) (v : Vec (Option Queue))
    → IsSound b → slice_get b.runs j ≡ Some r → slice_get b.graphs n ≡ Some g → same g.dag.spec.dag_id r.graph ≡ true → slice_get ss n ≡ Some s
    → IsPatchOf n (length g.dag.tasks) old mid index → slice_get mid index ≡ Some x → ArePlacesPatched b.now g.dag s before r x.queues.items v.items
    → TakesIn b ss j r before old (set mid index (with_table x v))
takes_run b ss j r before old mid n index g s x v sound run_is graph_is named shelf_is made there changed P a shelves before_is h = record {
  once = once;
  each = each;
  rest = rest;
}
  where
    new : List Patch
    new = set mid index (with_table x v)

    on : ArePatchesOn P a b ss mid
    on = made_on P a b ss old mid n index g graph_is made h

    graph_of : x.graph ≡ n
    graph_of = ap (λ (z : Patch). z.graph) (same_Some x made.patch (sym there ∙ made.there)) ∙ made.graph_is

    -- what it was
    before_it : (k : ℕ) (y : Patch) → slice_get new k ≡ Some y → (z : Patch) × ((slice_get mid k ≡ Some z) × (z.graph ≡ y.graph))
    before_it k y e = elim (set_get mid index (with_table x v) k y e) [
      | inl i ↦ (x, (ap (slice_get mid) i.0 ∙ there, ap (λ (z : Patch). z.graph) i.1))
      | inr i ↦ (y, (i.1, refl))
    ]

    once : (k l : ℕ) (y z : Patch) → slice_get new k ≡ Some y → slice_get new l ≡ Some z → y.graph ≡ z.graph → k ≡ l
    once k l y z e f i =
        let c = before_it k y e in
        let d = before_it l z f in
        on.once k l c.0 d.0 c.1.0 d.1.0 (c.1.1 ∙ (i ∙ sym d.1.1))

    other : (m : ℕ) (f : LoadedGraph) → m ≢ n → slice_get b.graphs m ≡ Some f → same r.graph f.dag.spec.dag_id ≡ false
    other m f apart e = other_id b n m g f r sound graph_is named apart e

    each : (k : ℕ) (y : Patch) (f : LoadedGraph) (u : ShelfValue) → slice_get new k ≡ Some y → slice_get b.graphs y.graph ≡ Some f → slice_get ss y.graph ≡ Some u → IsTableOn (and_run P j) a b f.dag u y.queues.items
    each k y f u e there_graph there_shelf = elim (set_get mid index (with_table x v) k y e) as (λ _. IsTableOn (and_run P j) a b f.dag u y.queues.items) [
      | inl i ↦
          let own : y.graph ≡ n = ap (λ (z : Patch). z.graph) (sym i.1) ∙ graph_of in
          let is : g ≡ f = same_Some g f (sym graph_is ∙ (ap (slice_get b.graphs) (sym own) ∙ there_graph)) in
          let sh : s ≡ u = same_Some s u (sym shelf_is ∙ (ap (slice_get ss) (sym own) ∙ there_shelf)) in
          subst (λ (z : Patch). IsTableOn (and_run P j) a b f.dag u z.queues.items) i.1
          (subst (λ (z : LoadedGraph). IsTableOn (and_run P j) a b z.dag u v.items) is
          (subst (λ (z : ShelfValue). IsTableOn (and_run P j) a b g.dag z v.items) sh own_table))
      | inr i ↦
          let apart : y.graph ≢ n = λ c. i.0 (on.once k index y x i.1 there (c ∙ sym graph_of)) in
          other_table P a b j r f.dag u y.queues.items run_is (other y.graph f apart there_graph) (on.each k y f u i.1 there_graph there_shelf)
    ]
      where
        own_table : IsTableOn (and_run P j) a b g.dag s v.items
        own_table = table_on P a b j r before g.dag s x.queues.items v.items sound run_is (flip g.dag.spec.dag_id r.graph named) shelves.later.clock before_is (shelf_held a b ss n g s shelves graph_is shelf_is).1 changed
            (on.each index x g s there (ap (slice_get b.graphs) graph_of ∙ graph_is) (ap (slice_get ss) graph_of ∙ shelf_is))

    rest : (m : ℕ) (f : LoadedGraph) (u : ShelfValue) → AreOfOthers m new → slice_get b.graphs m ≡ Some f → slice_get ss m ≡ Some u → IsGraphStillOn (and_run P j) a b f.dag u
    rest m f u others e i p t q task queue =
        let within : index < length mid = slice_get_within mid index x there in
        let apart : m ≢ n = λ c. others index (with_table x v) (get_set_same mid index (with_table x v) within) (graph_of ∙ sym c) in
        other_still P a b j r f.dag.spec.dag_id t p q run_is (other m f apart e) (on.rest m f u old_others e i p t q task queue)
      where
        old_others : AreOfOthers m mid
        old_others k y at own = by_bool {C = ⊥} (nat_eq k index)
            (λ c.
            let is : k ≡ index = eqb-true k index c in
            let within : index < length mid = slice_get_within mid index x there in
            let same_patch : x ≡ y = same_Some x y (sym there ∙ (ap (slice_get mid) (sym is) ∙ at)) in
            others index (with_table x v) (get_set_same mid index (with_table x v) within) (ap (λ (z : Patch). z.graph) same_patch ∙ own))
            (λ c. others k y (get_set_other mid index k (with_table x v) (λ is. true≢false (sym (eq-eqb k index is) ∙ c)) ∙ at) own)

-- ---- the first patches
pub first_on : (a b : Schedule) (ns : List ℕ) (ss : List ShelfValue) (ps : List Patch) → AreAllTouched ns a.runs b.runs → AreShelvesBefore a b ss → AreFirstPatches b.now ss ps → ArePatchesOn (λ n. not (is_in ns n)) a b ss ps
first_on a b ns ss ps touched shelves h = record {
  once = h.once;
  each = λ k x g s e f i.
      let m = h.each k x s e i in
      let held = shelf_held a b ss x.graph g s shelves f i in
      record {
        long = m.long ∙ held.0.long;
        each = λ p t q o task queue at. place g.dag.spec.dag_id t p q o (held.1 p t q task queue) (m.each p q o queue at);
      };
  rest = λ n g s others e f p t q task queue. still g.dag.spec.dag_id t p q (h.rest n s others f p q queue);
}
  where
    still : (id : List ℕ) (t : TaskSpec) (p : ℕ) (q : Queue) → IsAhead b.now q → IsStillOn (λ n. not (is_in ns n)) a b id t p q
    still id t p q ahead = record {
      due = λ n m r out there of_it d. let w = was_at ns a.runs b.runs n r touched (not_false (is_in ns n) out) there in record { position = w.0; run = r; run_is = w.1; key = own_key r; due = d };
      ahead = ahead;
    }

    place : (id : List ℕ) (t : TaskSpec) (p : ℕ) (q : Queue) (o : Option Queue) → HoldsPlace a.now a.runs id t p q → IsMoved b.now q o → IsPlaceOn (λ n. not (is_in ns n)) a b id t p q o
    place id t p q None held is = still id t p q is
    place id t p q (Some new) held is = λ n m r out there of_it d.
        let w = was_at ns a.runs b.runs n r touched (not_false (is_in ns n) out) there in
        is a.now r.logical m shelves.later.clock (held w.0 m r w.1 of_it d)

-- ---- all runs
is_some_patch : (n p : ℕ) (ps : List Patch) (k : ℕ) (x : Patch) (q : Queue) → slice_get ps k ≡ Some x → x.graph ≡ n → slice_get x.queues.items p ≡ Some (Some q) → is_patched n p ps ≡ true
is_some_patch n p [] k x q e f g = absurd (none-some x e)
is_some_patch n p (y ∷ ps) zero x q e f g =
    let is : y ≡ x = same_Some y x e in
    ap (λ b. b || is_patched n p ps) (ap (λ (z : Patch). nat_eq z.graph n && is_put (slice_get z.queues.items p)) is ∙ (ap (λ b. b && is_put (slice_get x.queues.items p)) (eq-eqb x.graph n f) ∙ ap is_put g))
is_some_patch n p (y ∷ ps) (suc k) x q e f g = either (nat_eq y.graph n && is_put (slice_get y.queues.items p)) _ (is_some_patch n p ps k x q e f g)
  where
    either : (c d : Bool) → d ≡ true → (c || d) ≡ true
    either true d i = refl
    either false d i = i

-- one of them is of the graph, or none is
some_or_none : (n : ℕ) (ps : List Patch) → ((k : ℕ) × ((x : Patch) × ((slice_get ps k ≡ Some x) × (x.graph ≡ n)))) ⊎ AreOfOthers n ps
some_or_none n [] = inr (λ k x e f. none-some x e)
some_or_none n (y ∷ ps) = by_bool {C = ((k : ℕ) × ((x : Patch) × ((slice_get (y ∷ ps) k ≡ Some x) × (x.graph ≡ n)))) ⊎ AreOfOthers n (y ∷ ps)} (nat_eq y.graph n)
    (λ c. inl (0, (y, (refl, eqb-true y.graph n c))))
    (λ c. elim (some_or_none n ps) [
      | inl i ↦ inl (suc i.0, i.1)
      | inr i ↦ inr (λ k x e f. none_here c i k x e f)
    ])
  where
    none_here : nat_eq y.graph n ≡ false → AreOfOthers n ps → AreOfOthers n (y ∷ ps)
    none_here c i zero x e f = true≢false (sym (eq-eqb y.graph n (ap (λ (z : Patch). z.graph) (same_Some y x e) ∙ f)) ∙ c)
    none_here c i (suc k) x e f = i k x e f

pub patches_done : (P : ℕ → Bool) (a b : Schedule) (ss : List ShelfValue) (ps : List Patch) → AreShelvesBefore a b ss → ((n : ℕ) → P n ≡ true) → ArePatchesOn P a b ss ps → ArePatches a b ps
patches_done P a b ss ps shelves all h = record { each = each; others = others }
  where
    -- the shelf of a graph and the queue of a place
    shelf_there : (n : ℕ) (g : LoadedGraph) → slice_get b.graphs n ≡ Some g → (s : ShelfValue) × (slice_get ss n ≡ Some s)
    shelf_there n g e = let within = slice_get_within b.graphs n g e in element_at ss n (omega (arith, within, shelves.later.long, shelves.shelves.fit.long))

    queue_there : (n p : ℕ) (g : LoadedGraph) (s : ShelfValue) (t : TaskSpec) → slice_get b.graphs n ≡ Some g → slice_get ss n ≡ Some s → slice_get g.dag.tasks p ≡ Some t → (q : Queue) × (slice_get s.queues p ≡ Some q)
    queue_there n p g s t e f i = let within = slice_get_within g.dag.tasks p t i in element_at s.queues p (omega (arith, within, (shelf_held a b ss n g s shelves e f).0.long))

    each : (k p : ℕ) (x : Patch) (g : LoadedGraph) (t : TaskSpec) (q : Queue) → slice_get ps k ≡ Some x → slice_get b.graphs x.graph ≡ Some g → slice_get g.dag.tasks p ≡ Some t → slice_get x.queues.items p ≡ Some (Some q) → HoldsPlace b.now b.runs g.dag.spec.dag_id t p q
    each k p x g t q e f task at n m r there of_it d =
        let s = shelf_there x.graph g f in
        let old = queue_there x.graph p g s.0 t f s.1 task in
        (h.each k x g s.0 e f s.1).each p t old.0 (Some q) task old.1 at n m r (all n) there of_it d

    others : (n p j m : ℕ) (g : LoadedGraph) (t : TaskSpec) (r : Run) → slice_get b.graphs n ≡ Some g → slice_get g.dag.tasks p ≡ Some t → is_patched n p ps ≡ false
        → slice_get b.runs j ≡ Some r → same r.graph g.dag.spec.dag_id ≡ true → due_at r t p ≡ Some m → WasDue a r.graph r.logical t p m × (nat_le m a.now ≡ nat_le m b.now)
    others n p j m g t r e task out there of_it d =
        let s = shelf_there n g e in
        let old = queue_there n p g s.0 t e s.1 task in
        let still : IsStillOn P a b g.dag.spec.dag_id t p old.0 = elim (some_or_none n ps) [
          | inr i ↦ h.rest n g s.0 i e s.1 p t old.0 task old.1
          | inl i ↦
              let x : Patch = i.1.0 in
              let own : x.graph ≡ n = i.1.1.1 in
              let table = h.each i.0 x g s.0 i.1.1.0 (ap (slice_get b.graphs) own ∙ e) (ap (slice_get ss) own ∙ s.1) in
              let within = slice_get_within g.dag.tasks p t task in
              let o = element_at x.queues.items p (omega (arith, within, table.long)) in
              unput n p g t old.0 i.0 x o.0 i.1.1.0 own o.1 out (table.each p t old.0 o.0 task old.1 o.1)
        ] in
        let was = still.due j m r (all j) there of_it d in
        let graph : was.run.graph ≡ r.graph = same_is was.run.graph r.graph (and_left _ _ was.key) in
        let date : was.run.logical ≡ r.logical = eqb-true was.run.logical r.logical (and_right (same was.run.graph r.graph) _ was.key) in
        let held = (shelf_held a b ss n g s.0 shelves e s.1).1 p t old.0 task old.1 in
        let kept : is_kept a.now old.0 was.run.logical m ≡ true = held was.position m was.run was.run_is (ap (λ i. same i g.dag.spec.dag_id) graph ∙ of_it) was.due in
        (was, side a.now b.now old.0 r.logical m shelves.later.clock (ap (λ i. is_kept a.now old.0 i m) (sym date) ∙ kept) still.ahead)
      where
        unput : (n p : ℕ) (g : LoadedGraph) (t : TaskSpec) (q : Queue) (k : ℕ) (x : Patch) (o : Option Queue) → slice_get ps k ≡ Some x → x.graph ≡ n → slice_get x.queues.items p ≡ Some o → is_patched n p ps ≡ false → IsPlaceOn P a b g.dag.spec.dag_id t p q o → IsStillOn P a b g.dag.spec.dag_id t p q
        unput n p g t q k x None e own at out on = on
        unput n p g t q k x (Some new) e own at out on = absurd (true≢false (sym (is_some_patch n p ps k x new e own at) ∙ out))

-- the run that was there
find_place : (p : Run → Bool) (xs : List Run) (x : Run) → find p xs ≡ Some x → (i : ℕ) × (slice_get xs i ≡ Some x)
find_place p [] x e = absurd (none-some x e)
find_place p (y ∷ xs) x e = by_bool {C = (i : ℕ) × (slice_get (y ∷ xs) i ≡ Some x)} (p y)
    (λ g. (0, sym (ap (λ b. cond b (let o : Option Run = Some y in o) (find p xs)) g) ∙ e))
    (λ g. let t = find_place p xs x (sym (ap (λ b. cond b (let o : Option Run = Some y in o) (find p xs)) g) ∙ e) in (suc t.0, t.1))

pub before_is : (a : Schedule) (r : Run) (o : Option Run) → o ≡ find (is_at r.graph r.logical) a.runs → IsBefore a r o
before_is a r o e q f =
    let found : find (is_at r.graph r.logical) a.runs ≡ Some q = sym e ∙ f in
    let t = find_place (is_at r.graph r.logical) a.runs q found in
    (t.0, (t.1, find_passes (is_at r.graph r.logical) a.runs q found))

-- ---- the runs that are still to come
pub record IsPatching (a b : Schedule) (ss : List ShelfValue) (left : List ℕ) (ps : List Patch) : Type 0 where
  pub done : ℕ → Bool
  pub rest : (n : ℕ) → done n ≡ false → is_in left n ≡ true
  pub within : (n : ℕ) → is_in left n ≡ true → n < length b.runs
  pub on : ArePatchesOn done a b ss ps

pub patching_first : (a b : Schedule) (ns : List ℕ) (ss : List ShelfValue) (ps : List Patch) → AreAllTouched ns a.runs b.runs → AreShelvesBefore a b ss → AreFirstPatches b.now ss ps → IsPatching a b ss ns ps
patching_first a b ns ss ps touched shelves h = record {
  done = λ n. not (is_in ns n);
  rest = λ n e. negated (is_in ns n) e;
  within = λ n e. touched_within ns a.runs b.runs n touched e;
  on = first_on a b ns ss ps touched shelves h;
}
  where
    negated : (c : Bool) → not c ≡ false → c ≡ true
    negated true e = refl
    negated false e = absurd (true≢false e)

head_in : (n : ℕ) (ns : List ℕ) → is_in (n ∷ ns) n ≡ true
head_in n ns = ap (λ b. b || is_in ns n) (eq-eqb n n refl)

pub next_within : (a b : Schedule) (ss : List ShelfValue) (left rest : List ℕ) (n : ℕ) (ps : List Patch) → left ≡ n ∷ rest → IsPatching a b ss left ps → n < length b.runs
next_within a b ss left rest n ps e h = h.within n (ap (λ ns. is_in ns n) e ∙ head_in n rest)

pub patching_more : (a b : Schedule) (ss : List ShelfValue) (left rest : List ℕ) (n : ℕ) (r : Run) (before : Option Run) (old new : List Patch) → left ≡ n ∷ rest → AreShelvesBefore a b ss → IsBefore a r before → TakesIn b ss n r before old new → IsPatching a b ss left old → IsPatching a b ss rest new
patching_more a b ss left others n r before old new e shelves before_is takes h = record {
  done = and_run h.done n;
  rest = λ m f. behind m f;
  within = λ m f. h.within m (ap (λ ns. is_in ns m) e ∙ either (nat_eq n m) _ f);
  on = takes h.done a shelves before_is h.on;
}
  where
    either : (c d : Bool) → d ≡ true → (c || d) ≡ true
    either true d i = refl
    either false d i = i

    first_false : (c d : Bool) → (c || d) ≡ false → c ≡ false
    first_false true d i = i
    first_false false d i = refl

    second_false : (c d : Bool) → (c || d) ≡ false → d ≡ false
    second_false true d i = absurd (true≢false i)
    second_false false d i = i

    behind : (m : ℕ) → and_run h.done n m ≡ false → is_in others m ≡ true
    behind m f =
        let there : is_in (n ∷ others) m ≡ true = ap (λ ns. is_in ns m) (sym e) ∙ h.rest m (first_false (h.done m) _ f) in
        let apart : nat_eq n m ≡ false = by_bool {C = nat_eq n m ≡ false} (nat_eq n m)
        (λ i. absurd (true≢false (sym (eq-eqb m n (sym (eqb-true n m i))) ∙ second_false (h.done m) _ f)))
        (λ i. i) in
        sym (ap (λ b. b || is_in others m) apart) ∙ there

pub patching_done : (a b : Schedule) (ss : List ShelfValue) (left : List ℕ) (ps : List Patch) → length left ≡ 0 → AreShelvesBefore a b ss → IsPatching a b ss left ps → ArePatches a b ps
patching_done a b ss left ps e shelves h = patches_done h.done a b ss ps shelves all h.on
  where
    none : (ns : List ℕ) (n : ℕ) → length ns ≡ 0 → is_in ns n ≡ false
    none [] n f = refl
    none (m ∷ ns) n f = absurd (omega (arith, f))

    all : (n : ℕ) → h.done n ≡ true
    all n = by_bool {C = h.done n ≡ true} (h.done n) (λ f. f) (λ f. absurd (true≢false (sym (h.rest n f) ∙ none left n e)))
