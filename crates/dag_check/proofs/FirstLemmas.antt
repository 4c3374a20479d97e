-- The first fault of a file, as one function of it, is the fault that stands in it.
use Rattle.std.proofs.Common.{◌≡◌, ◌≢◌, ◌⊎◌, ℕ, zero, suc, ◌+◌, ◌-◌, ◌<◌, ◌≤◌, Bool, true, false, ◌==◌, ◌||◌, List, [], ◌∷◌, length, get_or, Option, Some, None, eqb, refl, sym, ap, subst, arith, inl, inr}
use Rattle.std.proofs.lemmas.Bool.{cases_lt, cases_Bool, false≢true, or_cases, eqb-true, ne_eqb}
use Rattle.std.proofs.lemmas.Map.Steps.{length-le_from_distinct_below}
use Rattle.std.specs.List.{list_any, IsDistinct, AllByRecursion}
use Rattle.graph_file.specs.Lists.{when}
use Rattle.graph_file.specs.declared.task_specs.TaskSpec.{TaskSpec}
use Rattle.graph_file.specs.declared.graph_specs.GraphSpec.{GraphSpec}
use Rattle.dag_check.specs.declared.faults.DagFault.{DagFault}
use Rattle.dag_check.specs.declared.faults.DagFault.TheVariants.{DoubleTask, UnknownUpstream, DoubleEdge, Cycle, Memory}
use Rattle.dag_check.specs.Orders.{is_in, AllBelow, IsAcyclic, IsCycle}
use Rattle.dag_check.specs.Names.{NoneBelow, FirstBelow, is_double, is_unknown, is_double_edge, up_of}
use Rattle.dag_check.specs.Graphs.{Dag, IsGraphOf}
use Rattle.dag_check.specs.Reach.{has_way}
use Rattle.dag_check.specs.Faults.{Stands, first_below, is_on_cycle, first_fault, without_names}
use Rattle.dag_check.proofs.PlainLemmas.{all-below}
use Rattle.dag_check.proofs.WayLemmas.{any-in, first-step, way-after, way-within}

-- ---- the first number that passes
first-none : (p : ℕ → Bool) (n : ℕ) → NoneBelow p n → first_below p n ≡ None
first-none p zero none = refl
first-none p (suc n) none =
    let before : first_below p n ≡ None = first-none p n (λ i below. none i (omega arith)) in
    let here : p n ≡ false = none n (omega arith) in
    rw (before, here) refl

first-some : (p : ℕ → Bool) (n i : ℕ) → FirstBelow p n i → first_below p n ≡ Some i
first-some p zero i first = let b = first.0 in absurd (omega arith)
first-some p (suc n) i first =
    let b = first.0 in
    elim (cases_lt i n) [
      | inl below ↦ let before : first_below p n ≡ Some i = first-some p n i (below, first.1) in rw before refl
      | inr from ↦
          let is : i ≡ n = omega arith in
          let before : first_below p n ≡ None = first-none p n (λ j less. first.1.before j (omega arith)) in
          let here : p n ≡ true = subst (λ (k : ℕ). p k ≡ true) is first.1.passes in
          rw (before, here) (ap (λ k. Some k) (sym is))
    ]

first-here : (p : ℕ → Bool) (n : ℕ) → p n ≡ true → (j : ℕ) × (first_below p (suc n) ≡ Some j)
first-here p n here = elim (first_below p n) as (λ o. (j : ℕ) × (◌≡◌ {A = Option ℕ} (elim o as (λ q. Option ℕ) [ Some i ↦ Some i | None ↦ when (p n) n ]) (Some j))) [
  | Some i ↦ (i, refl)
  | None ↦ (n, rw here refl)
]

first-any : (p : ℕ → Bool) (n i : ℕ) → i < n → p i ≡ true → (j : ℕ) × (first_below p n ≡ Some j)
first-any p zero i below on = absurd (omega arith)
first-any p (suc n) i below on =
    elim (cases_lt i n) [
      | inl less ↦ let r = first-any p n i less on in let e : first_below p n ≡ Some r.0 = r.1 in (r.0, rw e refl)
      | inr from ↦
          let is : i ≡ n = omega arith in
          let here : p n ≡ true = subst (λ (k : ℕ). p k ≡ true) is on in
          first-here p n here
    ]

-- ---- ways and numberings
-- along a way the numbers fall
way-falls : (up : ℕ → List ℕ) (n : ℕ) → AllBelow up n → (number : ℕ → ℕ) → ((i u : ℕ) → i < n → is_in (up i) u ≡ true → number u < number i)
    → (m x y : ℕ) → x < n → has_way up m x y ≡ true → number y < number x
way-falls up n below number falls zero x y inside way = absurd (false≢true way)
way-falls up n below number falls (suc m) x y inside way =
    let r = any-in (λ z. z == y || has_way up m z y) (up x) way in
    let step : number r.0 < number x = falls x r.0 inside r.1 in
    elim (or_cases (r.0 == y) (has_way up m r.0 y) r.2) [
      | inl here ↦ subst (λ (k : ℕ). number k < number x) (eqb-true r.0 y here) step
      | inr rest ↦ let later = way-falls up n below number falls m r.0 y (below x r.0 inside r.1) rest in omega arith
    ]

acyclic-none : (up : ℕ → List ℕ) (n : ℕ) → AllBelow up n → IsAcyclic up n → NoneBelow (λ i. has_way up n i i) n
acyclic-none up n below acyclic i inside =
    elim (cases_Bool (has_way up n i i)) [
      | inl way ↦ let falls = way-falls up n below acyclic.0 acyclic.1 n i i inside way in absurd (omega arith)
      | inr none ↦ none
    ]

-- ---- a cycle is a way back
-- from each position of the walk a way leads back to its first
back : (up : ℕ → List ℕ) (n : ℕ) (w : List ℕ) → IsCycle up n w → (k : ℕ) → suc k < length w → has_way up (suc k) (get_or w (suc k) 0) (get_or w 0 0) ≡ true
back up n w c zero below = first-step up 0 (get_or w 1 0) (get_or w 0 0) (c.edges 0 below)
back up n w c (suc k) below =
    way-after up (suc k) (get_or w (suc (suc k)) 0) (get_or w 0 0) (get_or w (suc k) 0)
    (let e : suc k + 1 ≡ suc (suc k) = omega arith in subst (λ (j : ℕ). is_in (up (get_or w j 0)) (get_or w (suc k) 0) ≡ true) e (c.edges (suc k) (omega arith)))
    (back up n w c k (omega arith))

around : (up : ℕ → List ℕ) (n : ℕ) (w : List ℕ) → IsCycle up n w → has_way up (length w) (get_or w 0 0) (get_or w 0 0) ≡ true
around up n w c = elim (cases_lt 1 (length w)) [
  | inl more ↦
      let e : suc (length w - 2) ≡ length w - 1 = omega arith in
      let way = back up n w c (length w - 2) (omega arith) in
      let f : suc (suc (length w - 2)) ≡ length w = omega arith in
      subst (λ (j : ℕ). has_way up j (get_or w 0 0) (get_or w 0 0) ≡ true) f
      (way-after up (suc (length w - 2)) (get_or w 0 0) (get_or w 0 0) (get_or w (suc (length w - 2)) 0)
      (subst (λ (j : ℕ). is_in (up (get_or w 0 0)) (get_or w j 0) ≡ true) (sym e) c.closed) way)
  | inr one ↦
      let some = c.some in
      let e : length w - 1 ≡ 0 = omega arith in
      let f : 1 ≡ length w = omega arith in
      subst (λ (j : ℕ). has_way up j (get_or w 0 0) (get_or w 0 0) ≡ true) f
      (first-step up 0 (get_or w 0 0) (get_or w 0 0) (subst (λ (j : ℕ). is_in (up (get_or w 0 0)) (get_or w j 0) ≡ true) e c.closed))
]

all-differ : (x : ℕ) (ys : List ℕ) → ((j : ℕ) → j < length ys → x ≢ get_or ys j 0) → AllByRecursion (λ y. eqb x y ≡ false) ys
all-differ x [] h = tt
all-differ x (y ∷ ys) h = (ne_eqb x y (h 0 (omega arith)), all-differ x ys (λ j below. h (suc j) (omega arith)))

all-distinct : (xs : List ℕ) → ((i j : ℕ) → i < j → j < length xs → get_or xs i 0 ≢ get_or xs j 0) → IsDistinct eqb xs
unfolding IsDistinct
all-distinct [] h = tt
all-distinct (x ∷ xs) h = (all-differ x xs (λ j below. h 0 (suc j) (omega arith) (omega arith)), all-distinct xs (λ i j less below. h (suc i) (suc j) (omega arith) (omega arith)))

all-inside : (n : ℕ) (xs : List ℕ) → ((k : ℕ) → k < length xs → get_or xs k 0 < n) → (q : ℕ) → list_any (eqb q) xs ≡ true → q < n
all-inside n [] h q there = absurd (false≢true there)
all-inside n (x ∷ xs) h q there =
    elim (or_cases (eqb q x) (list_any (eqb q) xs) there) [
      | inl here ↦ subst (λ (k : ℕ). k < n) (sym (eqb-true q x here)) (h 0 (omega arith))
      | inr rest ↦ all-inside n xs (λ k below. h (suc k) (omega arith)) q rest
    ]

-- distinct numbers below n are at most n
short : (up : ℕ → List ℕ) (n : ℕ) (w : List ℕ) → IsCycle up n w → length w ≤ n
short up n w c = length-le_from_distinct_below w n (all-distinct w c.distinct) (all-inside n w c.within)

cycle-back : (up : ℕ → List ℕ) (n : ℕ) (w : List ℕ) → IsCycle up n w → has_way up n (get_or w 0 0) (get_or w 0 0) ≡ true
cycle-back up n w c = way-within up (length w) n (get_or w 0 0) (get_or w 0 0) (short up n w c) (around up n w c)

-- ---- the first fault
pub faultless : (spec : GraphSpec) (g : Dag) → IsGraphOf spec g → first_fault spec.tasks ≡ None
faultless spec g h =
    let file = spec.tasks in
    let n = length file in
    let a : first_below (is_double file) n ≡ None = first-none _ n h.plain.names in
    let b : first_below (is_unknown file) n ≡ None = first-none _ n h.plain.known in
    let d : first_below (is_double_edge file) n ≡ None = first-none _ n h.plain.edges in
    let e : first_below (is_on_cycle file) n ≡ None = first-none _ n (acyclic-none (up_of file) n (all-below file h.plain.known) h.acyclic) in
    rw (a, b, d, e) refl

pub first-stands : (file : List TaskSpec) (f : DagFault) → Stands file f → (f ≡ Memory) ⊎ (first_fault file ≡ Some (without_names f))
first-stands file (DoubleTask i) s = let a : first_below (is_double file) (length file) ≡ Some i = first-some _ _ i s in inr (rw a refl)
first-stands file (UnknownUpstream i) s =
    let a : first_below (is_double file) (length file) ≡ None = first-none _ _ s.0 in
    let b : first_below (is_unknown file) (length file) ≡ Some i = first-some _ _ i s.1 in
    inr (rw (a, b) refl)
first-stands file (DoubleEdge i) s =
    let a : first_below (is_double file) (length file) ≡ None = first-none _ _ s.0 in
    let b : first_below (is_unknown file) (length file) ≡ None = first-none _ _ s.1 in
    let d : first_below (is_double_edge file) (length file) ≡ Some i = first-some _ _ i s.2 in
    inr (rw (a, b, d) refl)
first-stands file (Cycle names) s =
    let a : first_below (is_double file) (length file) ≡ None = first-none _ _ s.plain.names in
    let b : first_below (is_unknown file) (length file) ≡ None = first-none _ _ s.plain.known in
    let d : first_below (is_double_edge file) (length file) ≡ None = first-none _ _ s.plain.edges in
    let e = first-any (is_on_cycle file) (length file) (get_or s.walk 0 0) (s.cycle.within 0 s.cycle.some) (cycle-back (up_of file) (length file) s.walk s.cycle) in
    let f : first_below (is_on_cycle file) (length file) ≡ Some e.0 = e.1 in
    inr (rw (a, b, d, f) refl)
first-stands file Memory s = inl refl
