-- The dates of graphs' runs: what edits leave of them, where there is room for them, and how they stay beside their graphs.
use Rattle.std.proofs.Common.{◌≡◌, ◌∙◌, ◌⊎◌, refl, sym, ap, subst, inl, inr, ℕ, zero, suc, ◌+◌, ◌<◌, ◌≤◌, Bool, true, false, ◌&&◌, ◌||◌, ◌==◌, cond, List, [], ◌∷◌, ◌++◌, length, map, take, drop, count_by, insert, Option, Some, None, option_and_then, option_map, get_or, slice_get, slice_set, true≢false, arith}
use Rattle.std.proofs.lemmas.Bool.{eq-eqb, eqb-true, false_from_ne_true}
use Rattle.std.proofs.lemmas.Cmp.{nat_list_cmp_total}
use Rattle.std.specs.Cmp.Lexicographic.{nat_list_eq_equiv}
use Rattle.std.proofs.lemmas.List.{length-map, take_all, take_more}
use Rattle.std.proofs.lemmas.List.Folds.{list_any-append}
use Rattle.std.specs.List.{list_any}
use Rattle.std.proofs.lemmas.List.Sums.{sum_by-cons}
use Rattle.std.proofs.lemmas.Option.{slice_get_within, get_or_from_slice_get, slice_get-map}
use Rattle.run_planner.specs.Index.{Index, has_date}
use Rattle.run_lists.specs.declared.edits.Edit.{Edit}
use Rattle.run_lists.specs.Edits.{put_in, edited, added, added_run, hidden, adds, FitsAt, RiseFrom, AreEditsOf}
use Rattle.run_lists.proofs.EditLemmas.{get_before}
use Rattle.run_lists.proofs.KeyLemmas.{keys_after}
use Rattle.sched_state.specs.Lists.{same}
use Rattle.sched_state.specs.declared.graphs.LoadedGraph.{LoadedGraph}
use Rattle.sched_state.specs.declared.runs.Run.{Run}
use Rattle.dag_check.specs.Graphs.{Dag}
use Rattle.graph_file.specs.Lists.{when}
use Rattle.sched_state.proofs.NameLemmas.{find_passes, same_is, same_itself}
use Rattle.sched_state.proofs.OrderLemmas.{and_right, or_left, or_right}
use Rattle.sched_laws.proofs.GraphLemmas.{paused_dag}
use Rattle.sched_laws.proofs.SettleLemmas.{map_some}
use Rattle.sched_model.specs.Changes.{pause_graph}
use Rattle.sched_state.proofs.ElementLemmas.{element_at, drop_at}
use Rattle.sched_model.specs.Lists.{at, rises}
use Rattle.sched_model.specs.Schedule.{graph_among, graph_before, is_at}
use Rattle.sched_creation.specs.Dates.{HasDates, HaveDates}
use Rattle.sched_draft.specs.Parts.{replaced_with, with_other}
use Rattle.sched_draft.proofs.SearchLemmas.{graph_id, graph_key, one_place, unfound}
use Rattle.sched_laws.proofs.DecisionLemmas.{by_bool}
use Rattle.sched_core.proofs.OtherLemmas.{other_id}
use Rattle.sched_core.specs.Changes.{count_of}
use Rattle.sched_core.specs.Dates.{is_of, added_of, AreNoted, AreNotedAt, AreNotedWith, CanNoteAt, HaveRoom, HaveRoomTo, IsNoted, IsNotedOne}
use Rattle.sched_core.specs.declared.changes.Rest.{Rest}

-- ---- how many runs a graph has after edits
count_cons : {X : Type 0} (p : X → Bool) (x : X) (xs : List X) → count_by p (x ∷ xs) ≡ cond (p x) 1 0 + count_by p xs
count_cons p x xs = sum_by-cons (λ y. cond (p y) 1 0) x xs

count_put : (p : Run → Bool) (n : ℕ) (x : Run) (xs : List Run) → count_by p (insert xs n x) ≡ cond (p x) 1 0 + count_by p xs
count_put p zero x xs = count_cons p x xs
count_put p (suc n) x [] = count_cons p x []
count_put p (suc n) x (y ∷ ys) =
    let first : count_by p (y ∷ insert ys n x) ≡ cond (p y) 1 0 + count_by p (insert ys n x) = count_cons p y (insert ys n x) in
    let rest : count_by p (insert ys n x) ≡ cond (p x) 1 0 + count_by p ys = count_put p n x ys in
    let old : count_by p (y ∷ ys) ≡ cond (p y) 1 0 + count_by p ys = count_cons p y ys in
    turned (cond (p y) 1 0) (cond (p x) 1 0) (count_by p ys) (count_by p (insert ys n x)) (count_by p (y ∷ insert ys n x)) (count_by p (y ∷ ys)) first rest old
  where
    turned : (a b c m k l : ℕ) → k ≡ a + m → m ≡ b + c → l ≡ a + c → k ≡ b + l
    turned a b c m k l e f g = omega (arith, e, f, g)

count_set : (p : Run → Bool) (n : ℕ) (x r : Run) (xs : List Run) → slice_get xs n ≡ Some r → p x ≡ p r → count_by p (at (λ _. x) n xs) ≡ count_by p xs
count_set p n x r [] g e = refl
count_set p zero x r (y ∷ ys) g e =
    let c : ◌≡◌ {A = Option Run} (Some y) (Some r) = g in
    let i : y ≡ r = cc in
    count_cons p x ys ∙ (ap (λ b. cond b 1 0 + count_by p ys) (e ∙ ap p (sym i)) ∙ sym (count_cons p y ys))
count_set p (suc n) x r (y ∷ ys) g e =
    count_cons p y (at (λ _. x) n ys) ∙ (ap (λ m. cond (p y) 1 0 + m) (count_set p n x r ys g e) ∙ sym (count_cons p y ys))

plus_zero : (n : ℕ) → n ≡ 0 + n
plus_zero n = omega arith

count_next : (id : List ℕ) (b : Bool) (n s : ℕ) (x : Run) (es : List Edit) (rs : List Run) → FitsAt b n x rs → RiseFrom (s + added b) (n + hidden b) es rs
    → count_of id (put_in b n x (λ _. x) (edited es rs)) ≡ cond (b && same x.graph id) 1 0 + count_of id (edited es rs)
count_next id true n s x es rs f h = count_put (λ (r : Run). same r.graph id) n x (edited es rs)
count_next id false n s x es rs f h =
    count_set (λ (r : Run). same r.graph id) n x f.0 (edited es rs) (get_before (λ r. r) (λ r _. r) (s + 0) (n + 1) n es rs rs h (omega arith) (omega arith) ∙ f.1) (ap (λ g. same g id) f.2.0) ∙ plus_zero (count_of id (edited es rs))

count_from : (id : List ℕ) (s i : ℕ) (es : List Edit) (rs : List Run) → RiseFrom s i es rs → count_of id (edited es rs) ≡ added_of id es + count_of id rs
count_from id s i [] rs h = plus_zero (count_of id rs)
count_from id s i (e ∷ es) rs h =
    let first : count_of id (edited (e ∷ es) rs) ≡ cond (is_of id e) 1 0 + count_of id (edited es rs) = count_next id e.is_new e.from s e.run es rs h.2 h.3 in
    let rest : count_of id (edited es rs) ≡ added_of id es + count_of id rs = count_from id (s + added e.is_new) (e.from + hidden e.is_new) es rs h.3 in
    let all : added_of id (e ∷ es) ≡ cond (is_of id e) 1 0 + added_of id es = count_cons (is_of id) e es in
    summed (cond (is_of id e) 1 0) (added_of id es) (count_of id rs) (count_of id (edited es rs)) (count_of id (edited (e ∷ es) rs)) (added_of id (e ∷ es)) first rest all
  where
    summed : (a b c m k l : ℕ) → k ≡ a + m → m ≡ b + c → l ≡ a + b → k ≡ l + c
    summed a b c m k l e f g = omega (arith, e, f, g)

pub runs_after : (id : List ℕ) (es : List Edit) (rs : List Run) → AreEditsOf rs es → count_of id (edited es rs) ≡ added_of id es + count_of id rs
runs_after id es rs h = count_from id 0 0 es rs h

-- ---- the dates after edits
pub dates_edited : (gs : List LoadedGraph) (rs : List Run) (es : List Edit) (xs ys : List Index) → AreEditsOf rs es → HaveDates gs rs xs → AreNoted gs es xs ys → HaveDates gs (edited es rs) ys
dates_edited gs rs es xs ys of h noted = record {
  long = noted.long ∙ h.long;
  each = λ n g y there now d.
      let b : n < length xs = let l : n < length ys = slice_get_within ys n y now in omega (arith, l, noted.long) in
      let x = element_at xs n b in
      noted.each n g x.0 y there x.1 now d ∙ (ap (λ c. list_any (adds g.dag.spec.dag_id d) es || c) (h.each n g x.0 there x.1 d) ∙ sym (keys_after g.dag.spec.dag_id d es rs of));
}

-- ---- the dates of one graph's runs, edit by edit
adds_none : (a b c : Bool) → (a && b) ≡ false → (a && (b && c)) ≡ false
adds_none true true c e = absurd (true≢false e)
adds_none true false c e = refl
adds_none false b c e = refl

-- what is noted of the first k edits, and the room that is left for the others
pub record IsNotedTo (id : List ℕ) (es : List Edit) (k : ℕ) (x y : Index) : Type 0 where
  pub dates : (d : ℕ) → has_date y.dates d ≡ (list_any (adds id d) (take k es) || has_date x.dates d)
  pub room : added_of id (drop k es) ≤ y.room

or_last : (a b c : Bool) → (b || (a || c)) ≡ ((a || (b || false)) || c)
or_last true true c = refl
or_last true false c = refl
or_last false true c = refl
or_last false false c = refl

take_one : (es : List Edit) (k : ℕ) (e : Edit) → slice_get es k ≡ Some e → take (k + 1) es ≡ take k es ++ e ∷ []
take_one es k e there = take_more es k e (slice_get_within es k e there) ∙ ap (λ x. take k es ++ x ∷ []) (get_or_from_slice_get es k e e there)

pub noted_begins : (id : List ℕ) (es : List Edit) (x : Index) → added_of id es ≤ x.room → IsNotedTo id es 0 x x
noted_begins id [] x room = record { dates = λ d. refl; room = room }
noted_begins id (e ∷ es) x room = record { dates = λ d. refl; room = room }

pub noted_next : (id : List ℕ) (es : List Edit) (k : ℕ) (e : Edit) (x y z : Index) → slice_get es k ≡ Some e → IsNotedTo id es k x y
    → ((d : ℕ) → has_date z.dates d ≡ (adds id d e || has_date y.dates d)) → y.room ≤ z.room + cond (is_of id e) 1 0 → IsNotedTo id es (k + 1) x z
noted_next id es k e x y z there so_far new less = record {
  dates = λ d.
      let p : Edit → Bool = adds id d in
      new d ∙ (ap (λ b. p e || b) (so_far.dates d) ∙ (or_last (list_any p (take k es)) (p e) (has_date x.dates d)
      ∙ ap (λ b. b || has_date x.dates d) (sym (ap (list_any p) (take_one es k e there) ∙ list_any-append p (take k es) (e ∷ [])))));
  room =
      let left : added_of id (drop k es) ≡ cond (is_of id e) 1 0 + added_of id (drop (k + 1) es) = ap (added_of id) (drop_at es k e there) ∙ count_cons (is_of id) e (drop (k + 1) es) in
      less_room (added_of id (drop k es)) (cond (is_of id e) 1 0) (added_of id (drop (k + 1) es)) y.room z.room left so_far.room less;
}
  where
    less_room : (all here rest before after : ℕ) → all ≡ here + rest → all ≤ before → before ≤ after + here → rest ≤ after
    less_room all here rest before after e f g = omega (arith, e, f, g)

pub noted_room : (id : List ℕ) (es : List Edit) (k : ℕ) (e : Edit) (x y : Index) → slice_get es k ≡ Some e → IsNotedTo id es k x y → cond (is_of id e) 1 0 ≤ y.room
noted_room id es k e x y there so_far =
    let left : added_of id (drop k es) ≡ cond (is_of id e) 1 0 + added_of id (drop (k + 1) es) = ap (added_of id) (drop_at es k e there) ∙ count_cons (is_of id) e (drop (k + 1) es) in
    more_room (added_of id (drop k es)) (cond (is_of id e) 1 0) (added_of id (drop (k + 1) es)) y.room left so_far.room
  where
    more_room : (all here rest room : ℕ) → all ≡ here + rest → all ≤ room → here ≤ room
    more_room all here rest room e f = omega (arith, e, f)

pub noted_over : (id : List ℕ) (es : List Edit) (k : ℕ) (x y : Index) → length es ≤ k → IsNotedTo id es k x y → IsNoted id es x y
noted_over id es k x y over h d = h.dates d ∙ ap (λ ds. list_any (adds id d) ds || has_date x.dates d) (take_all k es over)

-- ---- index by index
set_there : {X : Type 0} (xs : List X) (k : ℕ) (y : X) → k < length xs → slice_get (slice_set xs k y) k ≡ Some y
set_there [] k y b = absurd (omega (arith, b))
set_there (x ∷ xs) zero y b = refl
set_there (x ∷ xs) (suc k) y b = set_there xs k y (omega (arith, b))

set_other : {X : Type 0} (xs : List X) (k n : ℕ) (y : X) → (n ≡ k → ⊥) → slice_get (slice_set xs k y) n ≡ slice_get xs n
set_other [] k n y b = refl
set_other (x ∷ xs) zero zero y b = absurd (b refl)
set_other (x ∷ xs) zero (suc n) y b = refl
set_other (x ∷ xs) (suc k) zero y b = refl
set_other (x ∷ xs) (suc k) (suc n) y b = set_other xs k n y (λ e. b (ap suc e))

set_long : {X : Type 0} (xs : List X) (k : ℕ) (y : X) → length (slice_set xs k y) ≡ length xs
set_long [] k y = refl
set_long (x ∷ xs) zero y = refl
set_long (x ∷ xs) (suc k) y = ap suc (set_long xs k y)

-- one index with the dates that it had
pub same_set : (xs : List Index) (k : ℕ) (x y : Index) → y.dates ≡ x.dates → x ≡ get_or xs k x → map (λ (v : Index). v.dates) (slice_set xs k y) ≡ map (λ (v : Index). v.dates) xs
same_set [] k x y e read = refl
same_set (v ∷ xs) zero x y e read = ap (λ ds. ds ∷ map (λ (w : Index). w.dates) xs) (e ∙ ap (λ (w : Index). w.dates) read)
same_set (v ∷ xs) (suc k) x y e read = ap (λ (dss : List (List ℕ)). v.dates ∷ dss) (same_set xs k x y e read)

pub same_long : (xs ys : List Index) → map (λ (v : Index). v.dates) ys ≡ map (λ (v : Index). v.dates) xs → length ys ≡ length xs
same_long xs ys e = sym (length-map ys (λ (v : Index). v.dates)) ∙ (ap (λ (dss : List (List ℕ)). length dss) e ∙ length-map xs (λ (v : Index). v.dates))

-- where an edit adds no run of the graph
nothing_noted : (id : List ℕ) (e : Edit) (x : Index) → is_of id e ≡ false → IsNotedOne id e x x
nothing_noted id e x off = record {
  dates = λ d. ap (λ b. b || has_date x.dates d) (sym (adds_none e.is_new (same e.run.graph id) (e.run.logical == d) off));
  room = omega arith;
}

-- ---- the run that an edit adds
no_run : (e : Edit) → None ≡ added_run e → e.is_new ≡ false
no_run e = elim e.is_new as (λ b. ◌≡◌ {A = Option Run} None (when b e.run) → b ≡ false) [
  | true ↦ λ f. absurd (let c : ◌≡◌ {A = Option Run} None (Some e.run) = f in cc)
  | false ↦ λ f. refl
]

pub the_run : (e : Edit) (r : Run) → Some r ≡ added_run e → (e.is_new ≡ true) × (e.run ≡ r)
the_run e r = elim e.is_new as (λ b. ◌≡◌ {A = Option Run} (Some r) (when b e.run) → (b ≡ true) × (e.run ≡ r)) [
  | true ↦ λ f. let c : ◌≡◌ {A = Option Run} (Some r) (Some e.run) = f in let i : e.run ≡ r = cc in (refl, i)
  | false ↦ λ f. absurd (let c : ◌≡◌ {A = Option Run} (Some r) None = f in cc)
]

-- it adds a run of none of the graphs
abbrev pub AddsNone : List LoadedGraph → Edit → Type 0
AddsNone gs e = (n : ℕ) (g : LoadedGraph) → slice_get gs n ≡ Some g → is_of g.dag.spec.dag_id e ≡ false

-- where its graph is not there
pub adds_unknown : (gs : List LoadedGraph) (e : Edit) (r : Run) → Some r ≡ added_run e → graph_among gs r.graph ≡ None → AddsNone gs e
adds_unknown gs e r is none n g there =
    let run = the_run e r is in
    ap (λ b. b && same e.run.graph g.dag.spec.dag_id) run.0
    ∙ (ap (λ (q : Run). same q.graph g.dag.spec.dag_id) run.1
    ∙ (nat_list_eq_equiv.symm r.graph g.dag.spec.dag_id ∙ unfound (λ (h : LoadedGraph). same h.dag.spec.dag_id r.graph) gs none n g there))

-- it adds a run of the graph at the position, and of no other
pub record AddsTo (gs : List LoadedGraph) (e : Edit) (p : ℕ) : Type 0 where
  pub graph : LoadedGraph
  pub there : slice_get gs p ≡ Some graph
  pub is_new : e.is_new ≡ true
  pub named : graph.dag.spec.dag_id ≡ e.run.graph
  pub others : (n : ℕ) (g : LoadedGraph) → slice_get gs n ≡ Some g → is_of g.dag.spec.dag_id e ≡ true → n ≡ p

pub adds_to : (gs : List LoadedGraph) (e : Edit) (r : Run) (p : ℕ) → rises graph_before gs ≡ true → Some r ≡ added_run e → p < length gs → option_and_then (slice_get gs) (Some p) ≡ graph_among gs r.graph → AddsTo gs e p
adds_to gs e r p rise is inside found =
    let run = the_run e r is in
    let g = element_at gs p inside in
    let here : same g.0.dag.spec.dag_id r.graph ≡ true = find_passes (λ (h : LoadedGraph). same h.dag.spec.dag_id r.graph) gs g.0 (sym found ∙ g.1) in
    record {
      graph = g.0;
      there = g.1;
      is_new = run.0;
      named = same_is _ _ here ∙ ap (λ (q : Run). q.graph) (sym run.1);
      others = λ n h at of.
          let mine : same r.graph h.dag.spec.dag_id ≡ true = ap (λ (q : Run). same q.graph h.dag.spec.dag_id) (sym run.1) ∙ and_right e.is_new _ of in
          one_place nat_list_cmp_total graph_id (λ (k : LoadedGraph). same k.dag.spec.dag_id r.graph) r.graph (graph_key r.graph) gs n p h g.0 rise at g.1 (nat_list_eq_equiv.symm h.dag.spec.dag_id r.graph ∙ mine) here;
    }

-- what it adds to is of its run's graph
to_graph : (gs : List LoadedGraph) (e : Edit) (p n : ℕ) (g : LoadedGraph) (t : AddsTo gs e p) → slice_get gs n ≡ Some g → n ≡ p → g.dag.spec.dag_id ≡ e.run.graph
to_graph gs e p n g t there is =
    let c : ◌≡◌ {A = Option LoadedGraph} (Some g) (Some t.graph) = sym there ∙ (ap (slice_get gs) is ∙ t.there) in
    let i : g ≡ t.graph = cc in
    ap (λ (h : LoadedGraph). h.dag.spec.dag_id) i ∙ t.named

-- ---- room, edit by edit
any_more : (p : Edit → Bool) (es : List Edit) (k : ℕ) (e : Edit) → slice_get es k ≡ Some e → list_any p (take (k + 1) es) ≡ true → (list_any p (take k es) ≡ true) ⊎ (p e ≡ true)
any_more p es k e there any = either (list_any p (take k es)) (p e) (sym (ap (list_any p) (take_one es k e there) ∙ list_any-append p (take k es) (e ∷ [])) ∙ any)
  where
    either : (b c : Bool) → (b || (c || false)) ≡ true → (b ≡ true) ⊎ (c ≡ true)
    either true c f = inl refl
    either false true f = inr refl
    either false false f = absurd (true≢false (sym f))

pub room_begins : (gs : List LoadedGraph) (es : List Edit) (xs : List Index) → HaveRoomTo gs es 0 xs
room_begins gs es xs n g x at now any = absurd (true≢false (sym any ∙ none_first es))
  where
    none_first : (ds : List Edit) → list_any (is_of g.dag.spec.dag_id) (take 0 ds) ≡ false
    none_first [] = refl
    none_first (d ∷ ds) = refl

pub room_stays : (gs : List LoadedGraph) (es : List Edit) (k : ℕ) (e : Edit) (xs : List Index) → slice_get es k ≡ Some e → HaveRoomTo gs es k xs
    → ((n : ℕ) (g : LoadedGraph) → slice_get gs n ≡ Some g → is_of g.dag.spec.dag_id e ≡ true → list_any (is_of g.dag.spec.dag_id) (take k es) ≡ true) → HaveRoomTo gs es (k + 1) xs
room_stays gs es k e xs there so_far back n g x at now any = elim (any_more (is_of g.dag.spec.dag_id) es k e there any) [
  | inl before ↦ so_far n g x at now before
  | inr here ↦ so_far n g x at now (back n g at here)
]

-- it adds a run of no graph
pub room_none : (gs : List LoadedGraph) (es : List Edit) (k : ℕ) (e : Edit) (xs : List Index) → slice_get es k ≡ Some e → AddsNone gs e → HaveRoomTo gs es k xs → HaveRoomTo gs es (k + 1) xs
room_none gs es k e xs there none so_far = room_stays gs es k e xs there so_far (λ n g at of. absurd (true≢false (sym of ∙ none n g at)))

-- an edit before it adds a run of its graph
pub room_before : (gs : List LoadedGraph) (es : List Edit) (k : ℕ) (e : Edit) (r : Run) (xs : List Index) → slice_get es k ≡ Some e → Some r ≡ added_run e → list_any (is_of r.graph) (take k es) ≡ true → HaveRoomTo gs es k xs → HaveRoomTo gs es (k + 1) xs
room_before gs es k e r xs there is any so_far =
    let run = the_run e r is in
    room_stays gs es k e xs there so_far (λ n g at of.
    let named : r.graph ≡ g.dag.spec.dag_id = ap (λ (q : Run). q.graph) (sym run.1) ∙ same_is _ _ (and_right e.is_new _ of) in
    ap (λ (id : List ℕ). list_any (is_of id) (take k es)) (sym named) ∙ any)

-- room is made at its graph
pub room_made : (gs : List LoadedGraph) (es : List Edit) (k : ℕ) (e : Edit) (p : ℕ) (xs : List Index) (y : Index) → slice_get es k ≡ Some e → AddsTo gs e p → p < length xs → added_of e.run.graph es ≤ y.room → HaveRoomTo gs es k xs
    → HaveRoomTo gs es (k + 1) (slice_set xs p y)
room_made gs es k e p xs y there to inside room so_far n g x at now any = by_bool {C = added_of g.dag.spec.dag_id es ≤ x.room} (n == p)
    (λ same_place.
    let is : n ≡ p = eqb-true n p same_place in
    let c : ◌≡◌ {A = Option Index} (Some x) (Some y) = sym now ∙ (ap (slice_get (slice_set xs p y)) is ∙ set_there xs p y inside) in
    let j : y ≡ x = cc in
    let id : e.run.graph ≡ g.dag.spec.dag_id = sym (to_graph gs e p n g to at is) in
    subst (λ (v : Index). added_of g.dag.spec.dag_id es ≤ v.room) j (subst (λ (i : List ℕ). added_of i es ≤ y.room) id room))
    (λ apart.
    let old : slice_get xs n ≡ Some x = sym (set_other xs p n y (λ is. true≢false (sym (eq-eqb n p is) ∙ apart))) ∙ now in
    elim (any_more (is_of g.dag.spec.dag_id) es k e there any) [
      | inl before ↦ so_far n g x at old before
      | inr here ↦ absurd (true≢false (sym (eq-eqb n p (to.others n g at here)) ∙ apart))
    ])

-- there is room for all dates once all edits were looked at
pub room_over : (gs : List LoadedGraph) (es : List Edit) (k : ℕ) (xs : List Index) → length es ≤ k → HaveRoomTo gs es k xs → HaveRoom gs es xs
room_over gs es k xs over h n g x there now = by_bool {C = added_of g.dag.spec.dag_id es ≤ x.room} (list_any (is_of g.dag.spec.dag_id) es)
    (λ any. h n g x there now (ap (list_any (is_of g.dag.spec.dag_id)) (take_all k es over) ∙ any))
    (λ none. let z : added_of g.dag.spec.dag_id es ≡ 0 = none_of g.dag.spec.dag_id es none in omega (arith, z))
  where
    none_of : (id : List ℕ) (ds : List Edit) → list_any (is_of id) ds ≡ false → added_of id ds ≡ 0
    none_of id [] f = refl
    none_of id (d ∷ ds) f =
        let one : ◌≡◌ {A = ℕ} (cond (is_of id d) 1 0) 0 = ap (λ b. cond b 1 0) (or_left (is_of id d) _ f) in
        let rest : added_of id ds ≡ 0 = none_of id ds (or_right (is_of id d) _ f) in
        let all = count_cons (is_of id) d ds in
        omega (arith, all, one, rest)

-- ---- dates, edit by edit
-- there is room for the date of the run that it adds
pub room_there : (gs : List LoadedGraph) (es : List Edit) (k : ℕ) (e : Edit) (p : ℕ) (xs : List Index) (x : Index) → slice_get es k ≡ Some e → AddsTo gs e p → CanNoteAt gs es k xs → slice_get xs p ≡ Some x → 0 < x.room
room_there gs es k e p xs x there to can old =
    let mine : same e.run.graph to.graph.dag.spec.dag_id ≡ true = ap (same e.run.graph) to.named ∙ same_itself e.run.graph in
    let of : is_of to.graph.dag.spec.dag_id e ≡ true = ap (λ b. b && same e.run.graph to.graph.dag.spec.dag_id) to.is_new ∙ mine in
    let one : 1 ≤ x.room = subst (λ b. cond b 1 0 ≤ x.room) of (can p to.graph e x to.there there old) in
    omega (arith, one)

pub noted_none : (gs : List LoadedGraph) (es : List Edit) (k : ℕ) (e : Edit) (xs : List Index) → slice_get es k ≡ Some e → AddsNone gs e → AreNotedAt gs es k xs xs
noted_none gs es k e xs there none = record {
  long = refl;
  each = λ n g d x y at this was now.
      let c : ◌≡◌ {A = Option Edit} (Some e) (Some d) = sym there ∙ this in
      let i : e ≡ d = cc in
      let f : ◌≡◌ {A = Option Index} (Some x) (Some y) = sym was ∙ now in
      let j : x ≡ y = cc in
      subst (λ (z : Index). IsNotedOne g.dag.spec.dag_id d x z) j (nothing_noted g.dag.spec.dag_id d x (subst (λ (q : Edit). is_of g.dag.spec.dag_id q ≡ false) i (none n g at)));
}

pub noted_made : (gs : List LoadedGraph) (es : List Edit) (k : ℕ) (e : Edit) (p : ℕ) (xs : List Index) (x y : Index) → slice_get es k ≡ Some e → AddsTo gs e p → slice_get xs p ≡ Some x
    → ((d : ℕ) → has_date y.dates d ≡ (e.run.logical == d || has_date x.dates d)) → x.room ≤ y.room + 1 → AreNotedAt gs es k xs (slice_set xs p y)
noted_made gs es k e p xs x y there to old dates room = record {
  long = set_long xs p y;
  each = λ n g d v w at this was now.
      let c : ◌≡◌ {A = Option Edit} (Some e) (Some d) = sym there ∙ this in
      let i : e ≡ d = cc in
      subst (λ (q : Edit). IsNotedOne g.dag.spec.dag_id q v w) i (by_bool {C = IsNotedOne g.dag.spec.dag_id e v w} (n == p)
      (λ same_place. here n g v w at was now (eqb-true n p same_place))
      (λ apart.
      let f : ◌≡◌ {A = Option Index} (Some v) (Some w) = sym was ∙ (sym (set_other xs p n y (λ is. true≢false (sym (eq-eqb n p is) ∙ apart))) ∙ now) in
      let j : v ≡ w = cc in
      subst (λ (z : Index). IsNotedOne g.dag.spec.dag_id e v z) j (nothing_noted g.dag.spec.dag_id e v (false_from_ne_true (is_of g.dag.spec.dag_id e) (λ of. true≢false (sym (eq-eqb n p (to.others n g at of)) ∙ apart))))));
}
  where
    here : (n : ℕ) (g : LoadedGraph) (v w : Index) → slice_get gs n ≡ Some g → slice_get xs n ≡ Some v → slice_get (slice_set xs p y) n ≡ Some w → n ≡ p → IsNotedOne g.dag.spec.dag_id e v w
    here n g v w at was now is =
        let named : g.dag.spec.dag_id ≡ e.run.graph = to_graph gs e p n g to at is in
        let f : ◌≡◌ {A = Option Index} (Some v) (Some x) = sym was ∙ (ap (slice_get xs) is ∙ old) in
        let j : x ≡ v = cc in
        let h : ◌≡◌ {A = Option Index} (Some w) (Some y) = sym now ∙ (ap (slice_get (slice_set xs p y)) is ∙ set_there xs p y (slice_get_within xs p x old)) in
        let l : y ≡ w = cc in
        let mine : same e.run.graph g.dag.spec.dag_id ≡ true = ap (same e.run.graph) named ∙ same_itself e.run.graph in
        subst (λ (z : Index). IsNotedOne g.dag.spec.dag_id e z w) j (subst (λ (z : Index). IsNotedOne g.dag.spec.dag_id e x z) l (record {
          dates = λ m. dates m ∙ ap (λ b. b || has_date x.dates m) (sym (ap (λ b. b && (same e.run.graph g.dag.spec.dag_id && e.run.logical == m)) to.is_new ∙ ap (λ b. b && e.run.logical == m) mine));
          room = subst (λ b. x.room ≤ y.room + cond b 1 0) (sym (ap (λ b. b && same e.run.graph g.dag.spec.dag_id) to.is_new ∙ mine)) room;
        }))

-- the first k edits are noted
pub record AreNotedTo (gs : List LoadedGraph) (es : List Edit) (k : ℕ) (xs ys : List Index) : Type 0 where
  pub long : length ys ≡ length xs
  pub each : (n : ℕ) (g : LoadedGraph) (x y : Index) → slice_get gs n ≡ Some g → slice_get xs n ≡ Some x → slice_get ys n ≡ Some y → IsNotedTo g.dag.spec.dag_id es k x y

pub all_begins : (gs : List LoadedGraph) (es : List Edit) (xs : List Index) → HaveRoom gs es xs → AreNotedTo gs es 0 xs xs
all_begins gs es xs room = record {
  long = refl;
  each = λ n g x y at was now.
      let c : ◌≡◌ {A = Option Index} (Some x) (Some y) = sym was ∙ now in
      let j : x ≡ y = cc in
      subst (λ (z : Index). IsNotedTo g.dag.spec.dag_id es 0 x z) j (noted_begins g.dag.spec.dag_id es x (room n g x at was));
}

pub all_can : (gs : List LoadedGraph) (es : List Edit) (k : ℕ) (xs ys : List Index) → AreNotedTo gs es k xs ys → CanNoteAt gs es k ys
all_can gs es k xs ys h n g e y at this now =
    let b : n < length xs = let l : n < length ys = slice_get_within ys n y now in omega (arith, l, h.long) in
    let x = element_at xs n b in
    noted_room g.dag.spec.dag_id es k e x.0 y this (h.each n g x.0 y at x.1 now)

pub all_next : (gs : List LoadedGraph) (es : List Edit) (k : ℕ) (xs ys zs : List Index) → k < length es → AreNotedAt gs es k ys zs → AreNotedTo gs es k xs ys → AreNotedTo gs es (k + 1) xs zs
all_next gs es k xs ys zs inside one h = record {
  long = one.long ∙ h.long;
  each = λ n g x z at was now.
      let b : n < length ys = let l : n < length zs = slice_get_within zs n z now in omega (arith, l, one.long) in
      let y = element_at ys n b in
      let e = element_at es k inside in
      let step = one.each n g e.0 y.0 z at e.1 y.1 now in
      noted_next g.dag.spec.dag_id es k e.0 x y.0 z e.1 (h.each n g x y.0 at was y.1) step.dates step.room;
}

pub all_over : (gs : List LoadedGraph) (es : List Edit) (k : ℕ) (xs ys : List Index) → length es ≤ k → AreNotedTo gs es k xs ys → AreNoted gs es xs ys
all_over gs es k xs ys over h = record { long = h.long; each = λ n g x y at was now. noted_over g.dag.spec.dag_id es k x y over (h.each n g x y at was now) }

-- ---- dates beside their graphs
dates_first : (g : LoadedGraph) (x : Index) (gs : List LoadedGraph) (rs : List Run) (xs : List Index) → HaveDates (g ∷ gs) rs (x ∷ xs) → HasDates g.dag.spec.dag_id rs x
dates_first g x gs rs xs h = h.each 0 g x refl refl

dates_rest : (g : LoadedGraph) (x : Index) (gs : List LoadedGraph) (rs : List Run) (xs : List Index) → HaveDates (g ∷ gs) rs (x ∷ xs) → HaveDates gs rs xs
dates_rest g x gs rs xs h = record { long = omega (arith, h.long); each = λ n k v e f. h.each (suc n) k v e f }

dates_before : (g : LoadedGraph) (x : Index) (gs : List LoadedGraph) (rs : List Run) (xs : List Index) → HasDates g.dag.spec.dag_id rs x → HaveDates gs rs xs → HaveDates (g ∷ gs) rs (x ∷ xs)
dates_before g x gs rs xs first rest = record { long = ap suc rest.long; each = λ n k v e f. by n k v e f }
  where
    by : (n : ℕ) (k : LoadedGraph) (v : Index) → slice_get (g ∷ gs) n ≡ Some k → slice_get (x ∷ xs) n ≡ Some v → HasDates k.dag.spec.dag_id rs v
    by zero k v e f =
        let c : ◌≡◌ {A = Option LoadedGraph} (Some g) (Some k) = e in
        let d : ◌≡◌ {A = Option Index} (Some x) (Some v) = f in
        let i : g ≡ k = cc in
        let j : x ≡ v = cc in
        subst (λ (q : LoadedGraph). HasDates q.dag.spec.dag_id rs v) i (subst (λ (q : Index). HasDates g.dag.spec.dag_id rs q) j first)
    by (suc n) k v e f = rest.each n k v e f

-- a graph that is replaced by one with its id
pub dates_set : (gs : List LoadedGraph) (rs : List Run) (xs : List Index) (i : ℕ) (g h : LoadedGraph) → slice_get gs i ≡ Some h → g.dag.spec.dag_id ≡ h.dag.spec.dag_id → HaveDates gs rs xs → HaveDates (slice_set gs i g) rs xs
dates_set [] rs xs i g h there same_id d = d
dates_set (k ∷ gs) rs [] i g h there same_id d = absurd (omega (arith, d.long))
dates_set (k ∷ gs) rs (x ∷ xs) zero g h there same_id d =
    let c : ◌≡◌ {A = Option LoadedGraph} (Some k) (Some h) = there in
    let is : k ≡ h = cc in
    dates_before g x gs rs xs (subst (λ (id : List ℕ). HasDates id rs x) (sym (same_id ∙ ap (λ (q : LoadedGraph). q.dag.spec.dag_id) (sym is))) (dates_first k x gs rs xs d)) (dates_rest k x gs rs xs d)
dates_set (k ∷ gs) rs (x ∷ xs) (suc i) g h there same_id d =
    dates_before k x (slice_set gs i g) rs xs (dates_first k x gs rs xs d) (dates_set gs rs xs i g h there same_id (dates_rest k x gs rs xs d))

-- one that is put in, with its dates
dates_put : (gs : List LoadedGraph) (rs : List Run) (xs : List Index) (i : ℕ) (g : LoadedGraph) (x : Index) → i ≤ length gs → HaveDates gs rs xs → HasDates g.dag.spec.dag_id rs x
    → HaveDates (take i gs ++ (g ∷ drop i gs)) rs (take i xs ++ (x ∷ drop i xs))
dates_put [] rs [] zero g x b d new = dates_before g x [] rs [] new d
dates_put [] rs [] (suc i) g x b d new = absurd (omega (arith, b))
dates_put [] rs (y ∷ xs) i g x b d new = absurd (omega (arith, d.long))
dates_put (k ∷ gs) rs [] i g x b d new = absurd (omega (arith, d.long))
dates_put (k ∷ gs) rs (y ∷ xs) zero g x b d new = dates_before g x (k ∷ gs) rs (y ∷ xs) new d
dates_put (k ∷ gs) rs (y ∷ xs) (suc i) g x b d new =
    dates_before k y (take i gs ++ (g ∷ drop i gs)) rs (take i xs ++ (x ∷ drop i xs)) (dates_first k y gs rs xs d) (dates_put gs rs xs i g x (omega (arith, b)) (dates_rest k y gs rs xs d) new)

pub dates_insert : (gs : List LoadedGraph) (rs : List Run) (xs : List Index) (i : ℕ) (g : LoadedGraph) (x : Index) → i ≤ length gs → HaveDates gs rs xs → HasDates g.dag.spec.dag_id rs x
    → HaveDates (insert gs i g) rs (insert xs i x)
dates_insert gs rs xs i g x b d new = dates_put gs rs xs i g x b d new

pub dates_paused : (id : List ℕ) (paused : Bool) (gs : List LoadedGraph) (rs : List Run) (xs : List Index) → HaveDates gs rs xs → HaveDates (map (pause_graph id paused) gs) rs xs
dates_paused id paused [] rs xs d = d
dates_paused id paused (g ∷ gs) rs [] d = absurd (omega (arith, d.long))
dates_paused id paused (g ∷ gs) rs (x ∷ xs) d =
    dates_before (pause_graph id paused g) x (map (pause_graph id paused) gs) rs xs (subst (λ (k : Dag). HasDates k.spec.dag_id rs x) (sym (paused_dag id paused g)) (dates_first g x gs rs xs d))
    (dates_paused id paused gs rs xs (dates_rest g x gs rs xs d))

-- so have those of which one is another with its id
pub dates_other : (k : LoadedGraph) (gs : List LoadedGraph) (rs : List Run) (xs : List Index) → HaveDates gs rs xs → HaveDates (with_other (Some k) gs) rs xs
dates_other k [] rs xs d = d
dates_other k (g ∷ gs) rs [] d = absurd (omega (arith, d.long))
dates_other k (g ∷ gs) rs (x ∷ xs) d =
    dates_before (replaced_with (Some k) g) x (with_other (Some k) gs) rs xs (subst (λ (id : List ℕ). HasDates id rs x) (sym (other_id k g)) (dates_first g x gs rs xs d)) (dates_other k gs rs xs (dates_rest g x gs rs xs d))

-- a graph without runs has no dates
no_run_at : (id : List ℕ) (d : ℕ) (rs : List Run) → list_any (λ (r : Run). same r.graph id) rs ≡ false → list_any (is_at id d) rs ≡ false
no_run_at id d [] e = refl
no_run_at id d (r ∷ rs) e =
    let here : same r.graph id ≡ false = or_left (same r.graph id) _ e in
    ap (λ b. (b && r.logical == d) || list_any (is_at id d) rs) here ∙ no_run_at id d rs (or_right (same r.graph id) _ e)

pub no_dates : (id : List ℕ) (rs : List Run) (x : Index) → list_any (λ (r : Run). same r.graph id) rs ≡ false → x.dates ≡ [] → HasDates id rs x
no_dates id rs x none empty d = ap (λ ds. has_date ds d) empty ∙ sym (no_run_at id d rs none)

-- ---- indices of the same dates
pub same_dates : (gs : List LoadedGraph) (rs : List Run) (xs ys : List Index) → map (λ (x : Index). x.dates) ys ≡ map (λ (x : Index). x.dates) xs → HaveDates gs rs xs → HaveDates gs rs ys
same_dates gs rs xs ys e h = record {
  long = sym (length-map ys (λ (x : Index). x.dates)) ∙ (ap (λ (ds : List (List ℕ)). length ds) e ∙ (length-map xs (λ (x : Index). x.dates) ∙ h.long));
  each = λ n g y there now d.
      let o : option_map (λ (x : Index). x.dates) (slice_get xs n) ≡ Some y.dates =
      sym (slice_get-map (λ (x : Index). x.dates) xs n) ∙ (ap (λ (ds : List (List ℕ)). slice_get ds n) (sym e) ∙ (slice_get-map (λ (x : Index). x.dates) ys n ∙ ap (option_map (λ (x : Index). x.dates)) now)) in
      let x = map_some (λ (v : Index). v.dates) (slice_get xs n) y.dates o in
      ap (λ ds. has_date ds d) (sym x.2) ∙ h.each n g x.0 there x.1 d;
}
