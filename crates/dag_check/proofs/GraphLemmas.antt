-- What a sound graph meets, and what a place reaches in it.
use Rattle.std.proofs.Common.{◌≡◌, ◌∙◌, ◌==◌, ◌++◌, ◌∷◌, append-nil, zero, suc, inl, inr, ℕ, ◌<◌, ◌≤◌, Bool, true, false, List, [], map, length, get_or, refl, ap, sym, subst, arith, Vec, Global, Some, None, position, vec_len, ltb, length-append}
use Rattle.std.proofs.lemmas.Bool.{cond-false, cond-true, lt-ltb, le-ltb, ltb-true, cases_lt, cases_Bool, or_cases, eqb-true, false≢true}
use Rattle.std.proofs.lemmas.List.{get_or-map, get_or_default}
use Rattle.std.proofs.lemmas.List.Sums.{position_or_len_is}
use mathlib.Core.Path.{fun_ext}
use Rattle.graph_file.specs.declared.task_specs.TaskSpec.{TaskSpec}
use Rattle.graph_file.specs.declared.graph_specs.GraphSpec.{GraphSpec}
use Rattle.dag_check.specs.declared.graphs.Direction.{Direction}
use Rattle.dag_check.specs.declared.graphs.Direction.TheVariants.{Upstream, Downstream}
use Rattle.dag_check.specs.declared.graphs.Graph.TheInside.{Inside}
use Rattle.dag_check.specs.declared.layouts.Layout.{Layout}
use Rattle.dag_check.specs.Orders.{is_in, edges_of, IsPlacement}
use Rattle.dag_check.specs.Searches.{marked}
use Rattle.dag_check.specs.Names.{up_of, IsPlain, same}
use Rattle.dag_check.specs.Graphs.{Dag, IsDag, task_at, no_task, ups, downs, downs_in, passing, dag_in, IsGraphOf}
use Rattle.dag_check.specs.Reach.{IsReach, towards, IsReached, LeadsDown, LeadsUp}
use Rattle.dag_check.specs.Layouts.{IsLayout, dag_inside, IsSound}
use Rattle.dag_check.proofs.OrderLemmas.{in-push}
use Rattle.dag_check.proofs.LawLemmas.{placement-acyclic, placement-one}
use Rattle.dag_check.proofs.NameLemmas.{length-map'}
use Rattle.dag_check.proofs.PlainLemmas.{placed-down}

abbrev pub inside-of : GraphSpec → Layout → Inside
inside-of spec l = record { spec = spec; layout = l }

pub sound-of : (spec : GraphSpec) (l : Layout) → IsPlain spec.tasks → IsLayout (up_of spec.tasks) (length spec.tasks) l → IsSound (inside-of spec l)
sound-of spec l plain h = record { plain = plain; layout = h }

-- what a sound graph's fields meet

pub order-within : (a : Inside) → IsSound a → (k : ℕ) → k < length a.layout.order.items → get_or a.layout.order.items k 0 < length a.spec.tasks
order-within a h k below = let n = h.layout.placement.long in h.layout.placement.within k (omega arith)

pub rows-same : (a : Inside) → IsSound a → length a.layout.upstreams.items ≡ length a.layout.order.items
rows-same a h = h.layout.long ∙ sym h.layout.placement.long

pub back-same : (a : Inside) → IsSound a → length a.layout.downstreams.items ≡ length a.layout.order.items
back-same a h = h.layout.downs_long ∙ sym h.layout.placement.long

pub ups-down : (a : Inside) → IsSound a → LeadsDown (edges_of a.layout.upstreams.items)
ups-down a h =
    subst (λ (rs : List (List ℕ)). LeadsDown (λ k. get_or rs k [])) (sym h.layout.ups_are) (placed-down (up_of a.spec.tasks) (length a.spec.tasks) a.layout.order.items h.layout.placement)

pub graph-of : (a : Inside) → IsSound a → IsGraphOf a.spec (dag_inside a)
graph-of a h =
    let one = placement-one _ _ a.layout.order.items h.layout.placement in
    record {
      plain = h.plain;
      acyclic = placement-acyclic _ _ _ h.layout.placement;
      placed = subst (IsPlacement (up_of a.spec.tasks) (length a.spec.tasks)) one h.layout.placement;
      is =
          ap (λ (rows : List (List ℕ)). record { spec = a.spec; tasks = map (task_at a.spec.tasks) a.layout.order.items; upstreams = rows }) h.layout.ups_are
          ∙ ap (dag_in a.spec) one;
    }

pub tasks-long : (a : Inside) → length (dag_inside a).tasks ≡ length a.layout.order.items
tasks-long a = length-map' (task_at a.spec.tasks) a.layout.order.items

pub dag-inside : (a : Inside) → IsSound a → length a.spec.tasks ≤ 256 → IsDag (dag_inside a)
dag-inside a h few =
    let long = tasks-long a in
    let n = h.layout.placement.long in
    record {
      rows = length-map' (λ (v : Vec ℕ Global). v.items) a.layout.upstreams.items ∙ (rows-same a h ∙ sym long);
      down = ups-down a h;
      few = omega arith;
    }

pub downs-read : (a : Inside) (k : ℕ) → IsSound a → k < length (dag_inside a).tasks → edges_of a.layout.downstreams.items k ≡ downs (dag_inside a) k
downs-read a k h below =
    let long = tasks-long a in
    let n = h.layout.placement.long in
    h.layout.downs_are k (omega arith) ∙ ap (λ (m : ℕ). downs_in (edges_of a.layout.upstreams.items) m k) (sym (long ∙ n))

pub position-some : (p : TaskSpec → Bool) (xs : List TaskSpec) (i : ℕ) → i < length xs → ((k : ℕ) → k < i → p (get_or xs k no_task) ≡ false) → p (get_or xs i no_task) ≡ true → Some i ≡ position p xs
position-some p xs i below before here =
    let e = position_or_len_is p xs i no_task (omega arith) before (λ _. here) in
    rw e (sym (cond-true _ (Some i) None (lt-ltb i (length xs) below)))

pub position-none : (p : TaskSpec → Bool) (xs : List TaskSpec) → ((k : ℕ) → k < length xs → p (get_or xs k no_task) ≡ false) → None ≡ position p xs
position-none p xs none =
    let e = position_or_len_is p xs (length xs) no_task (omega arith) none (λ less. absurd (omega arith)) in
    rw e (sym (cond-false _ (Some (length xs)) None (le-ltb (length xs) (length xs) (omega arith))))

pub task-read : (a : Inside) (k p : ℕ) (t : TaskSpec) → IsSound a → k < length a.layout.order.items → p ≡ get_or a.layout.order.items k p → t ≡ get_or a.spec.tasks p t → get_or (dag_inside a).tasks k no_task ≡ t
task-read a k p t h below at is =
    let e = at ∙ get_or_default a.layout.order.items k p 0 below in
    let inside : p < length a.spec.tasks = let w = order-within a h k below in omega arith in
    get_or-map (task_at a.spec.tasks) a.layout.order.items k 0 no_task below
    ∙ (ap (task_at a.spec.tasks) (sym e) ∙ (get_or_default a.spec.tasks p no_task t inside ∙ sym is))

pub in-passing : (p : ℕ → Bool) (n y : ℕ) → is_in (passing p n) y ≡ true → (p y ≡ true) × (y < n)
in-passing p zero y there = absurd (false≢true there)
in-passing p (suc n) y there =
    elim (cases_Bool (p n)) [
      | inl yes' ↦
          let there' : is_in (passing p n ++ n ∷ []) y ≡ true = rw yes' at there in
          elim (or_cases (is_in (passing p n) y) (n == y) (sym (in-push (passing p n) n y) ∙ there')) [
            | inl old ↦ let r = in-passing p n y old in (r.0, omega (arith, r.1))
            | inr new ↦ let e = eqb-true n y new in (subst (λ (k : ℕ). p k ≡ true) e yes', omega arith)
          ]
      | inr off ↦
          let there' : is_in (passing p n) y ≡ true = ap (λ (ys : List ℕ). is_in ys y) (sym (append-nil (passing p n))) ∙ rw off at there in
          let r = in-passing p n y there' in
          (r.0, omega (arith, r.1))
    ]

passing-none : (p : ℕ → Bool) (n : ℕ) → ((i : ℕ) → i < n → p i ≡ false) → passing p n ≡ []
passing-none p zero none = refl
passing-none p (suc n) none =
    let here = none n (omega arith) in
    let rest = passing-none p n (λ i below. none i (omega arith)) in
    rw (here, rest) refl

past-end : (xs : List (List ℕ)) (k : ℕ) → length xs ≤ k → get_or xs k [] ≡ []
past-end [] k above = refl
past-end (x ∷ xs) zero above = absurd (omega arith)
past-end (x ∷ xs) (suc k) above = past-end xs k (omega arith)

pub downs-all : (a : Inside) → IsSound a → edges_of a.layout.downstreams.items ≡ downs (dag_inside a)
downs-all a h = fun_ext (λ (k : ℕ). at k)
  where
    at : (k : ℕ) → edges_of a.layout.downstreams.items k ≡ downs (dag_inside a) k
    at k =
        let long = tasks-long a in
        elim (cases_lt k (length (dag_inside a).tasks)) [
          | inl below ↦ downs-read a k h below
          | inr above ↦
              let rows = length-map' (λ (v : Vec ℕ Global). v.items) a.layout.downstreams.items in
              let back = back-same a h in
              past-end (map (λ v. v.items) a.layout.downstreams.items) k (omega arith)
              ∙ sym (passing-none (λ i. is_in (ups (dag_inside a) i) k) (length (dag_inside a).tasks)
              (λ i below. elim (cases_Bool (is_in (ups (dag_inside a) i) k)) [ inl edge ↦ let d = ups-down a h i k edge in absurd (omega arith) | inr none ↦ none ]))
        ]

pub downs-up : (a : Inside) → IsSound a → LeadsUp (edges_of a.layout.downstreams.items) (length a.layout.downstreams.items)
downs-up a h j y edge =
    let r = in-passing (λ i. is_in (ups (dag_inside a) i) j) (length (dag_inside a).tasks) y (ap (λ (next : ℕ → List ℕ). is_in (next j) y) (sym (downs-all a h)) ∙ edge) in
    let d = ups-down a h y j r.0 in
    let long = tasks-long a in
    let back = back-same a h in
    let below = r.1 in
    (d, omega arith)

pub reached-of : (a : Inside) (d : Direction) (x : ℕ) (marks : Vec Bool Global) (places : List ℕ) → vec_len marks ≡ length (dag_inside a).tasks → IsReach (towards d (dag_inside a)) x (marked marks.items) → places ≡ passing (marked marks.items) (length marks.items) → IsReached (dag_inside a) d x places
reached-of a d x marks places long reach are =
    let same : length marks.items ≡ length (dag_inside a).tasks = let o = marks.ok.0 in omega arith in
    record {
      reached = marked marks.items;
      reach = reach;
      places_are = are ∙ ap (λ (n : ℕ). passing (marked marks.items) n) same;
    }

length-passing : (p : ℕ → Bool) (n : ℕ) → length (passing p n) ≤ n
length-passing p zero = omega arith
length-passing p (suc n) =
    let rest = length-passing p n in
    elim (cases_Bool (p n)) [ inl yes' ↦ rw yes' (omega (arith, length-append (passing p n) (n ∷ []), rest)) | inr off ↦ rw (off, append-nil) (omega (arith, rest)) ]

-- what a place reaches: few places, each there, and not itself
pub reached-few : (g : Dag) (d : Direction) (x : ℕ) (places : List ℕ) → IsReached g d x places → length places ≤ length g.tasks
reached-few g d x places h = let e = ap length h.places_are in let l = length-passing h.reached (length g.tasks) in omega arith

pub reached-below : (g : Dag) (d : Direction) (x : ℕ) (places : List ℕ) → IsReached g d x places → (y : ℕ) → is_in places y ≡ true → y < length g.tasks
reached-below g d x places h y there = (in-passing h.reached (length g.tasks) y (ap (λ (ys : List ℕ). is_in ys y) (sym h.places_are) ∙ there)).1

not-own : (g : Dag) (x : ℕ) (m : ℕ → Bool) (d : Direction) → IsDag g → IsReach (towards d g) x m → m x ≡ true → ⊥
not-own g x m Upstream dag h own =
    let p = h.smallest (λ j. ltb j x) (record {
      neighbours = λ y edge. lt-ltb y x (dag.down x y edge);
      edges = λ j y low edge. let a = ltb-true j x low in let b = dag.down j y edge in lt-ltb y x (omega arith);
    }) x own in
    let l = ltb-true x x p in
    absurd (omega arith)
not-own g x m Downstream dag h own =
    let p = h.smallest (λ j. ltb x j) (record {
      neighbours = λ y edge. lt-ltb x y (dag.down y x (in-passing (λ i. is_in (ups g i) x) (length g.tasks) y edge).0);
      edges = λ j y low edge. let a = ltb-true x j low in let b = dag.down y j (in-passing (λ i. is_in (ups g i) j) (length g.tasks) y edge).0 in lt-ltb x y (omega arith);
    }) x own in
    let l = ltb-true x x p in
    absurd (omega arith)

pub reached-other : (g : Dag) (d : Direction) (x : ℕ) (places : List ℕ) → IsDag g → IsReached g d x places → is_in places x ≡ false
reached-other g d x places dag h =
    elim (cases_Bool (is_in places x)) [
      | inl there ↦ absurd (not-own g x h.reached d dag h.reach (in-passing h.reached (length g.tasks) x (ap (λ (ys : List ℕ). is_in ys x) (sym h.places_are) ∙ there)).0)
      | inr none ↦ none
    ]

-- a place reaches one set

passing-same : (p q : ℕ → Bool) (n : ℕ) → ((i : ℕ) → p i ≡ q i) → passing p n ≡ passing q n
passing-same p q zero same = refl
passing-same p q (suc n) same =
    let here = same n in
    let rest = passing-same p q n same in
    rw (here, rest) refl

reach-one : (next : ℕ → List ℕ) (x : ℕ) (m m' : ℕ → Bool) → IsReach next x m → IsReach next x m' → (j : ℕ) → m j ≡ m' j
reach-one next x m m' h h' j =
    elim (cases_Bool (m j)) [
      | inl on ↦ on ∙ sym (h.smallest m' h'.closed j on)
      | inr off ↦
          elim (cases_Bool (m' j)) [
            | inl on' ↦ absurd (false≢true (sym off ∙ h'.smallest m h.closed j on'))
            | inr off' ↦ off ∙ sym off'
          ]
    ]

pub reached-one : (g : Dag) (d : Direction) (x : ℕ) (ps qs : List ℕ) → IsReached g d x ps → IsReached g d x qs → ps ≡ qs
reached-one g d x ps qs h h' =
    h.places_are ∙ (passing-same h.reached h'.reached (length g.tasks) (reach-one (towards d g) x h.reached h'.reached h.reach h'.reach) ∙ sym h'.places_are)
