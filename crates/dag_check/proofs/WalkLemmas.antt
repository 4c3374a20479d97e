-- A walk against the edges, and the cycle that it ends in.
use Rattle.std.proofs.Common.{◌≡◌, ◌≢◌, ◌⊎◌, ◌∙◌, ℕ, ◌+◌, ◌-◌, ◌<◌, ◌≤◌, Bool, true, false, List, [], ◌∷◌, ◌++◌, length, get_or, sym, subst, arith, inl, inr}
use Rattle.std.proofs.lemmas.Bool.{cases_lt, false≢true}
use Rattle.dag_check.specs.Orders.{is_in, IsCycle}
use Rattle.dag_check.specs.Searches.{IsTurned}
use Rattle.dag_check.proofs.OrderLemmas.{in-at, get-push_old, get-push_new, length-push}

-- a walk against the edges, over positions that aren't placed, and where it goes next
pub record IsWalk (up : ℕ → List ℕ) (m : ℕ → Bool) (n : ℕ) (w : List ℕ) (at : ℕ) : Type 0 where
  pub within : (k : ℕ) → k < length w → get_or w k 0 < n
  pub steps : (k : ℕ) → k + 1 < length w → is_in (up (get_or w k 0)) (get_or w (k + 1) 0) ≡ true
  pub distinct : (i j : ℕ) → i < j → j < length w → get_or w i 0 ≢ get_or w j 0
  pub next : (k : ℕ) → k + 1 ≡ length w → is_in (up (get_or w k 0)) at ≡ true
  pub inside : at < n
  pub open' : m at ≡ false

pub walk-more : (up : ℕ → List ℕ) (m : ℕ → Bool) (n : ℕ) (w : List ℕ) (at to : ℕ) → IsWalk up m n w at → is_in w at ≡ false → to < n → m to ≡ false → is_in (up at) to ≡ true → IsWalk up m n (w ++ at ∷ []) to
walk-more up m n w at to h new inside off edge =
    let long = length-push w at in
    let last = get-push_new w at in
    record {
      within = λ k below.
          elim (cases_lt k (length w)) [
            | inl old ↦ let e = get-push_old w at k old in let t = h.within k old in omega arith
            | inr same ↦ let e : k ≡ length w = omega arith in rw (e, last) h.inside
          ];
      steps = λ k below.
          elim (cases_lt (k + 1) (length w)) [
            | inl old ↦ rw (get-push_old w at k (omega arith), get-push_old w at (k + 1) old) (h.steps k old)
            | inr same ↦ let e : k + 1 ≡ length w = omega arith in rw (get-push_old w at k (omega arith), e, last) (h.next k e)
          ];
      distinct = λ i j less below.
          elim (cases_lt j (length w)) [
            | inl old ↦ rw (get-push_old w at i (omega arith), get-push_old w at j old) (h.distinct i j less old)
            | inr same ↦
                let e : j ≡ length w = omega arith in
                let lower : i < length w = omega arith in
                rw (get-push_old w at i lower, e, last) (λ q. false≢true (sym new ∙ subst (λ (x : ℕ). is_in w x ≡ true) q (in-at w i lower)))
          ];
      next = λ k end. let e : k ≡ length w = omega arith in rw (e, last) edge;
      inside = inside;
      open' = off;
    }

-- an edge of the closed walk: a step of the walk, or the one that closes it
closing : (up : ℕ → List ℕ) (m : ℕ → Bool) (n : ℕ) (w : List ℕ) (at from : ℕ) → IsWalk up m n w at → get_or w from 0 ≡ at → (a b : ℕ) → a < length w → (a ≡ b + 1) ⊎ ((a ≡ from) × (b + 1 ≡ length w)) → is_in (up (get_or w b 0)) (get_or w a 0) ≡ true
closing up m n w at from h same a b below (inl e) = rw e (h.steps b (omega arith))
closing up m n w at from h same a b below (inr e) = rw (e.0, same) (h.next b e.1)

-- where a number of the turned walk stands in the walk
turned-at : (w : List ℕ) (from : ℕ) (v : List ℕ) (t : IsTurned w from v) (k : ℕ) → k < length v → (j : ℕ) × (from ≤ j) × (j < length w) × (get_or v k 0 ≡ get_or w j 0) × ((j + k ≡ t.start) ⊎ (j + k ≡ t.start + (length w - from)))
turned-at w from v t k below =
    let long = t.long in
    let above = t.above in
    let inside = t.inside in
    elim (cases_lt t.start (from + k)) [
      | inl after ↦ (t.start + (length w - from) - k, omega arith, omega arith, t.after k after (omega arith), inr (omega arith))
      | inr before ↦ (t.start - k, omega arith, omega arith, t.before k before, inl (omega arith))
    ]

pub walk-end : (up : ℕ → List ℕ) (m : ℕ → Bool) (n : ℕ) (w : List ℕ) (at from : ℕ) (v : List ℕ) → IsWalk up m n w at → from < length w → get_or w from 0 ≡ at → IsTurned w from v → IsCycle up n v
walk-end up m n w at from v h below same t =
    let long = t.long in
    let above = t.above in
    let inside = t.inside in
    record {
      some = omega arith;
      within = λ k inside-k. let a = turned-at w from v t k inside-k in rw a.3 (h.within a.0 a.2);
      distinct = λ i j less inside-j.
          let a = turned-at w from v t i (omega arith) in
          let b = turned-at w from v t j inside-j in
          rw (a.3, b.3) (elim (cases_lt a.0 b.0) [
            | inl lower ↦ h.distinct a.0 b.0 lower b.2
            | inr upper ↦
                elim (cases_lt b.0 a.0) [
                  | inl higher ↦ λ q. h.distinct b.0 a.0 higher a.2 (sym q)
                  | inr no-more ↦ absurd (apart (length w) from t.start i j a.0 b.0 (omega arith) less (omega arith) a.1 a.2 a.4 b.4)
                ]
          ]);
      edges = λ k inside-k.
          let a = turned-at w from v t k (omega arith) in
          let b = turned-at w from v t (k + 1) inside-k in
          rw (a.3, b.3) (closing up m n w at from h same a.0 b.0 a.2 (neighbours (length w) from t.start k a.0 b.0 a.1 a.2 b.1 b.2 a.4 b.4));
      closed =
          let a = turned-at w from v t (length v - 1) (omega arith) in
          let b = turned-at w from v t 0 (omega arith) in
          rw (a.3, b.3) (closing up m n w at from h same a.0 b.0 a.2 (ends (length w) from t.start (length v - 1) a.0 b.0 above (omega arith) a.1 a.2 b.1 b.2 a.4 b.4));
      first = λ k inside-k.
          let a = turned-at w from v t k inside-k in
          let b = turned-at w from v t 0 (omega arith) in
          let e : b.0 ≡ t.start = origin (length w) from t.start b.0 b.2 (omega arith) b.4 in
          let l = t.least a.0 a.1 a.2 in
          rw (a.3, b.3, e) l;
    }
  where
    apart : (len from s i j a b : ℕ) → a ≡ b → i < j → j + from < len → from ≤ a → a < len → (a + i ≡ s) ⊎ (a + i ≡ s + (len - from)) → (b + j ≡ s) ⊎ (b + j ≡ s + (len - from)) → ⊥
    apart len from s i j a b e less below from-a a-len (inl p) (inl q) = omega arith
    apart len from s i j a b e less below from-a a-len (inl p) (inr q) = omega arith
    apart len from s i j a b e less below from-a a-len (inr p) (inl q) = omega arith
    apart len from s i j a b e less below from-a a-len (inr p) (inr q) = omega arith

    neighbours : (len from s k a b : ℕ) → from ≤ a → a < len → from ≤ b → b < len → (a + k ≡ s) ⊎ (a + k ≡ s + (len - from)) → (b + (k + 1) ≡ s) ⊎ (b + (k + 1) ≡ s + (len - from)) → (a ≡ b + 1) ⊎ ((a ≡ from) × (b + 1 ≡ len))
    neighbours len from s k a b from-a a-len from-b b-len (inl p) (inl q) = inl (omega arith)
    neighbours len from s k a b from-a a-len from-b b-len (inl p) (inr q) = inr (omega arith, omega arith)
    neighbours len from s k a b from-a a-len from-b b-len (inr p) (inl q) = absurd (omega arith)
    neighbours len from s k a b from-a a-len from-b b-len (inr p) (inr q) = inl (omega arith)

    ends : (len from s k a b : ℕ) → from ≤ s → k + 1 + from ≡ len → from ≤ a → a < len → from ≤ b → b < len → (a + k ≡ s) ⊎ (a + k ≡ s + (len - from)) → (b + 0 ≡ s) ⊎ (b + 0 ≡ s + (len - from)) → (a ≡ b + 1) ⊎ ((a ≡ from) × (b + 1 ≡ len))
    ends len from s k a b low e from-a a-len from-b b-len (inl p) (inl q) = inr (omega arith, omega arith)
    ends len from s k a b low e from-a a-len from-b b-len (inl p) (inr q) = absurd (omega arith)
    ends len from s k a b low e from-a a-len from-b b-len (inr p) (inl q) = inl (omega arith)
    ends len from s k a b low e from-a a-len from-b b-len (inr p) (inr q) = absurd (omega arith)

    origin : (len from s b : ℕ) → b < len → from ≤ s → (b + 0 ≡ s) ⊎ (b + 0 ≡ s + (len - from)) → b ≡ s
    origin len from s b b-len low (inl p) = omega arith
    origin len from s b b-len low (inr p) = absurd (omega arith)
