-- An order numbers its positions, a cycle refutes every numbering, and there is one order.
use Rattle.std.proofs.Common.{◌≡◌, ◌∙◌, ℕ, zero, suc, ◌+◌, ◌-◌, ◌<◌, ◌≤◌, Bool, true, not, ◌==◌, List, [], ◌∷◌, ◌++◌, length, get_or, take, refl, ap, sym, subst, arith, inl, inr, add-one, take-suc}
use Rattle.std.proofs.lemmas.Bool.{cases_lt, cases_Bool, false≢true, or_cases, and_parts, eqb-true}
use Rattle.std.proofs.lemmas.List.{take_all}
use Rattle.std.specs.List.{list_all}
use Rattle.dag_check.specs.Orders.{is_in, IsFirst, may_come, IsPlacement, IsCycle, IsAcyclic, place_in, seek, places_of}

-- what all pass, each passes
pub all-in : (p : ℕ → Bool) (xs : List ℕ) (u : ℕ) → list_all p xs ≡ true → is_in xs u ≡ true → p u ≡ true
all-in p [] u all there = absurd (false≢true there)
all-in p (x ∷ xs) u all there =
    let both = and_parts (p x) (list_all p xs) all in
    elim (or_cases (x == u) (is_in xs u) there) [ inl here ↦ subst (λ (y : ℕ). p y ≡ true) (eqb-true x u here) both.0 | inr rest ↦ all-in p xs u both.1 rest ]

pub place-before : (xs : List ℕ) (y k : ℕ) → is_in (take k xs) y ≡ true → place_in xs y < k
place-before xs y zero there = absurd (false≢true there)
place-before [] y (suc k) there = absurd (false≢true there)
place-before (x ∷ xs) y (suc k) there =
    elim (cases_Bool (x == y)) [
      | inl here ↦ rw here (omega arith)
      | inr other ↦ rw other (let l = place-before xs y k (rw other at there) in omega arith)
    ]

pub at-place : (xs : List ℕ) (y : ℕ) → is_in xs y ≡ true → get_or xs (place_in xs y) 0 ≡ y
at-place [] y there = absurd (false≢true there)
at-place (x ∷ xs) y there =
    elim (cases_Bool (x == y)) [
      | inl here ↦ rw here (eqb-true x y here)
      | inr other ↦ rw (other, add-one) (at-place xs y (rw other at there))
    ]

pub place-within : (xs : List ℕ) (y : ℕ) → is_in xs y ≡ true → place_in xs y < length xs
place-within xs y there = place-before xs y (length xs) (rw (take_all (length xs) xs (omega arith)) there)

pub upstream-before : (up : ℕ → List ℕ) (n : ℕ) (order : List ℕ) → IsPlacement up n order → (i u : ℕ) → i < n → is_in (up i) u ≡ true → place_in order u < place_in order i
upstream-before up n order h i u below edge =
    let there = h.whole i below in
    let k : place_in order i < n = let w = place-within order i there in let l = h.long in omega arith in
    let first = h.first (place_in order i) k in
    let at = at-place order i there in
    let all : list_all (is_in (take (place_in order i) order)) (up i) ≡ true =
    subst (λ (j : ℕ). list_all (is_in (take (place_in order i) order)) (up j) ≡ true) at (and_parts (not (is_in (take (place_in order i) order) (get_or order (place_in order i) 0))) _ first.passes).1 in
    place-before order u (place_in order i) (all-in (is_in (take (place_in order i) order)) (up i) u all edge)

pub placement-acyclic : (up : ℕ → List ℕ) (n : ℕ) (order : List ℕ) → IsPlacement up n order → IsAcyclic up n
placement-acyclic up n order h = (place_in order, upstream-before up n order h)

rises : (up : ℕ → List ℕ) (n : ℕ) (walk : List ℕ) (c : IsCycle up n walk) (a : IsAcyclic up n) (k : ℕ) → k < length walk → a.0 (get_or walk 0 0) + k ≤ a.0 (get_or walk k 0)
rises up n walk c a zero below = omega arith
rises up n walk c a (suc k) below =
    let before = rises up n walk c a k (omega arith) in
    let inside = c.within (k + 1) (omega arith) in
    let edge = c.edges k (omega arith) in
    let step = a.1 (get_or walk (k + 1) 0) (get_or walk k 0) inside edge in
    let e : suc k ≡ k + 1 = omega arith in
    rw e (omega (arith, before, step))

pub cycle-refutes : (up : ℕ → List ℕ) (n : ℕ) (walk : List ℕ) → IsCycle up n walk → IsAcyclic up n → ⊥
cycle-refutes up n walk c a =
    let some = c.some in
    let low = rises up n walk c a (length walk - 1) (omega arith) in
    let step = a.1 (get_or walk 0 0) (get_or walk (length walk - 1) 0) (c.within 0 some) c.closed in
    absurd (omega (arith, low, step))

seek-first : (p : ℕ → Bool) (i j k : ℕ) → IsFirst p i → j ≤ i → i < j + k → seek p j k ≡ i
seek-first p i j zero f low high = absurd (omega arith)
seek-first p i j (suc k) f low high =
    elim (cases_lt j i) [
      | inl less ↦ rw (f.before j less) (seek-first p i (j + 1) k f (omega arith) (omega arith))
      | inr same ↦ let e : j ≡ i = omega arith in rw (e, f.passes) refl
    ]

one-place : (up : ℕ → List ℕ) (n : ℕ) (order : List ℕ) → IsPlacement up n order → (k : ℕ) → k ≤ n → take k order ≡ places_of up n k
unfolding places_of
one-place up n order h zero within = refl
one-place up n order h (suc k) within =
    let rest = one-place up n order h k (omega arith) in
    let first = subst (λ (xs : List ℕ). IsFirst (may_come up (is_in xs)) (get_or order k 0)) rest (h.first k (omega arith)) in
    let found = seek-first (may_come up (is_in (places_of up n k))) (get_or order k 0) 0 n first (omega arith) (let w = h.within k (omega arith) in omega arith) in
    let long = h.long in
    take-suc order k 0 (omega arith) ∙ (ap (λ (xs : List ℕ). xs ++ get_or order k 0 ∷ []) rest ∙ ap (λ (x : ℕ). places_of up n k ++ x ∷ []) (sym found))

pub placement-one : (up : ℕ → List ℕ) (n : ℕ) (order : List ℕ) → IsPlacement up n order → order ≡ places_of up n n
placement-one up n order h = sym (take_all n order (let l = h.long in omega arith)) ∙ one-place up n order h n (omega arith)
