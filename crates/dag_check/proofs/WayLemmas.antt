-- What a place reaches is where ways lead from it.
use Rattle.std.proofs.Common.{◌≡◌, ℕ, zero, suc, ◌+◌, ◌<◌, ◌≤◌, Bool, true, ◌==◌, ◌||◌, List, [], ◌∷◌, length, refl, sym, subst, arith, inl, inr}
use Rattle.std.proofs.lemmas.Bool.{cases_lt, false≢true, or_left, or_right, or_cases, eq-eqb, eqb-true}
use Rattle.std.specs.List.{list_any}
use Rattle.dag_check.specs.declared.graphs.Direction.{Direction}
use Rattle.dag_check.specs.declared.graphs.Direction.TheVariants.{Upstream, Downstream}
use Rattle.dag_check.specs.Orders.{is_in}
use Rattle.dag_check.specs.Graphs.{Dag, IsDag, ups, downs}
use Rattle.dag_check.specs.Reach.{IsClosed, IsReach, IsReached, towards, has_way, reach_of, LeadsDown, LeadsUp}
use Rattle.dag_check.proofs.GraphLemmas.{in-passing, reached-one}

pub any-in : (q : ℕ → Bool) (xs : List ℕ) → list_any q xs ≡ true → (z : ℕ) × (is_in xs z ≡ true) × (q z ≡ true)
any-in q [] h = absurd (false≢true h)
any-in q (x ∷ xs) h =
    elim (or_cases (q x) (list_any q xs) h) [
      | inl here ↦ (x, or_left (x == x) (is_in xs x) (eq-eqb x x refl), here)
      | inr rest ↦ let r = any-in q xs rest in (r.0, or_right (x == r.0) (is_in xs r.0) r.1, r.2)
    ]

any-of : (q : ℕ → Bool) (xs : List ℕ) (z : ℕ) → is_in xs z ≡ true → q z ≡ true → list_any q xs ≡ true
any-of q [] z there on = absurd (false≢true there)
any-of q (x ∷ xs) z there on =
    elim (or_cases (x == z) (is_in xs z) there) [
      | inl here ↦ or_left (q x) (list_any q xs) (subst (λ (y : ℕ). q y ≡ true) (sym (eqb-true x z here)) on)
      | inr rest ↦ or_right (q x) (list_any q xs) (any-of q xs z rest on)
    ]

pub first-step : (next : ℕ → List ℕ) (n x y : ℕ) → is_in (next x) y ≡ true → has_way next (suc n) x y ≡ true
first-step next n x y edge = any-of (λ z. z == y || has_way next n z y) (next x) y edge (or_left (y == y) (has_way next n y y) (eq-eqb y y refl))

pub way-after : (next : ℕ → List ℕ) (n x y z : ℕ) → is_in (next x) z ≡ true → has_way next n z y ≡ true → has_way next (suc n) x y ≡ true
way-after next n x y z edge way = any-of (λ z. z == y || has_way next n z y) (next x) z edge (or_right (z == y) (has_way next n z y) way)

-- one step more may be taken, and none needs be
pub way-then : (next : ℕ → List ℕ) (n x j y : ℕ) → has_way next n x j ≡ true → is_in (next j) y ≡ true → has_way next (suc n) x y ≡ true
way-then next zero x j y way edge = absurd (false≢true way)
way-then next (suc n) x j y way edge =
    let r = any-in (λ z. z == j || has_way next n z j) (next x) way in
    elim (or_cases (r.0 == j) (has_way next n r.0 j) r.2) [
      | inl here ↦ way-after next (suc n) x y r.0 r.1 (subst (λ (k : ℕ). has_way next (suc n) k y ≡ true) (sym (eqb-true r.0 j here)) (first-step next n j y edge))
      | inr rest ↦ way-after next (suc n) x y r.0 r.1 (way-then next n r.0 j y rest edge)
    ]

way-more : (next : ℕ → List ℕ) (n x y : ℕ) → has_way next n x y ≡ true → has_way next (suc n) x y ≡ true
way-more next zero x y way = absurd (false≢true way)
way-more next (suc n) x y way =
    let r = any-in (λ z. z == y || has_way next n z y) (next x) way in
    elim (or_cases (r.0 == y) (has_way next n r.0 y) r.2) [
      | inl here ↦ first-step next (suc n) x y (subst (λ (k : ℕ). is_in (next x) k ≡ true) (eqb-true r.0 y here) r.1)
      | inr rest ↦ way-after next (suc n) x y r.0 r.1 (way-more next n r.0 y rest)
    ]

pub way-within : (next : ℕ → List ℕ) (m n x y : ℕ) → m ≤ n → has_way next m x y ≡ true → has_way next n x y ≡ true
way-within next m zero x y low way = let e : m ≡ 0 = omega arith in subst (λ (k : ℕ). has_way next k x y ≡ true) e way
way-within next m (suc n) x y low way =
    elim (cases_lt n m) [
      | inl above ↦ let e : m ≡ suc n = omega arith in subst (λ (k : ℕ). has_way next k x y ≡ true) e way
      | inr below ↦ way-more next n x y (way-within next m n x y below way)
    ]

-- where each edge leads one way, a way has no more steps than there are places between its ends
way-up : (next : ℕ → List ℕ) (n f x y : ℕ) → LeadsUp next n → has_way next f x y ≡ true → (k : ℕ) × (x + k ≤ y) × (has_way next k x y ≡ true)
way-up next n zero x y up way = absurd (false≢true way)
way-up next n (suc f) x y up way =
    let r = any-in (λ z. z == y || has_way next f z y) (next x) way in
    let d = (up x r.0 r.1).0 in
    elim (or_cases (r.0 == y) (has_way next f r.0 y) r.2) [
      | inl here ↦ let e = eqb-true r.0 y here in (suc 0, omega arith, first-step next 0 x y (subst (λ (k : ℕ). is_in (next x) k ≡ true) e r.1))
      | inr rest ↦ let s = way-up next n f r.0 y up rest in let l = s.1 in (suc s.0, omega arith, way-after next s.0 x y r.0 r.1 s.2)
    ]

way-down : (next : ℕ → List ℕ) (f x y : ℕ) → LeadsDown next → has_way next f x y ≡ true → (k : ℕ) × (y + k ≤ x) × (has_way next k x y ≡ true)
way-down next zero x y down way = absurd (false≢true way)
way-down next (suc f) x y down way =
    let r = any-in (λ z. z == y || has_way next f z y) (next x) way in
    let d = down x r.0 r.1 in
    elim (or_cases (r.0 == y) (has_way next f r.0 y) r.2) [
      | inl here ↦ let e = eqb-true r.0 y here in (suc 0, omega arith, first-step next 0 x y (subst (λ (k : ℕ). is_in (next x) k ≡ true) e r.1))
      | inr rest ↦ let s = way-down next f r.0 y down rest in let l = s.1 in (suc s.0, omega arith, way-after next s.0 x y r.0 r.1 s.2)
    ]

way-sound : (next : ℕ → List ℕ) (p : ℕ → Bool) (f x j : ℕ) → IsClosed next x p → has_way next f x j ≡ true → p j ≡ true
way-sound next p zero x j c way = absurd (false≢true way)
way-sound next p (suc f) x j c way =
    let r = any-in (λ z. z == j || has_way next f z j) (next x) way in
    let on = c.neighbours r.0 r.1 in
    elim (or_cases (r.0 == j) (has_way next f r.0 j) r.2) [
      | inl here ↦ subst (λ (k : ℕ). p k ≡ true) (eqb-true r.0 j here) on
      | inr rest ↦ way-sound next p f r.0 j (record { neighbours = λ y edge. c.edges r.0 y on edge; edges = c.edges }) rest
    ]

one-step : (next : ℕ → List ℕ) (n x y : ℕ) → x < n → is_in (next x) y ≡ true → has_way next n x y ≡ true
one-step next n x y below edge = way-within next (suc 0) n x y (omega arith) (first-step next 0 x y edge)

reach-up : (next : ℕ → List ℕ) (n x : ℕ) → LeadsUp next n → x < n → IsReach next x (has_way next n x)
reach-up next n x up below = record {
  closed = record {
    neighbours = λ y edge. one-step next n x y below edge;
    edges = λ j y way edge.
        let s = way-up next n n x j up way in
        let l = s.1 in
        let u = up j y edge in
        way-within next (suc s.0) n x y (omega arith) (way-then next s.0 x j y s.2 edge);
  };
  smallest = λ p c j way. way-sound next p n x j c way;
}

reach-down : (next : ℕ → List ℕ) (n x : ℕ) → LeadsDown next → x < n → IsReach next x (has_way next n x)
reach-down next n x down below = record {
  closed = record {
    neighbours = λ y edge. one-step next n x y below edge;
    edges = λ j y way edge.
        let s = way-down next n x j down way in
        let l = s.1 in
        let d = down j y edge in
        way-within next (suc s.0) n x y (omega arith) (way-then next s.0 x j y s.2 edge);
  };
  smallest = λ p c j way. way-sound next p n x j c way;
}

reach-ways : (g : Dag) (d : Direction) (k : ℕ) → IsDag g → k < length g.tasks → IsReach (towards d g) k (has_way (towards d g) (length g.tasks) k)
reach-ways g Upstream k dag below = reach-down (ups g) (length g.tasks) k dag.down below
reach-ways g Downstream k dag below =
    reach-up (downs g) (length g.tasks) k
    (λ j y edge. let r = in-passing (λ i. is_in (ups g i) j) (length g.tasks) y edge in (dag.down y j r.0, r.1))
    below

pub reached-ways : (g : Dag) (d : Direction) (k : ℕ) → IsDag g → k < length g.tasks → IsReached g d k (reach_of g d k)
reached-ways g d k dag below = record {
  reached = has_way (towards d g) (length g.tasks) k;
  reach = reach-ways g d k dag below;
  places_are = refl;
}

pub reached-is : (g : Dag) (d : Direction) (k : ℕ) (ps : List ℕ) → IsDag g → k < length g.tasks → IsReached g d k ps → ps ≡ reach_of g d k
reached-is g d k ps dag below h = reached-one g d k ps (reach_of g d k) h (reached-ways g d k dag below)
