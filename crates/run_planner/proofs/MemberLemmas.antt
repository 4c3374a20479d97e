-- The pairs of neighbouring ticks of a range are the intervals in it: no others, and each of them.
use Rattle.std.proofs.Common.{◌≡◌, ◌⊎◌, ℕ, zero, suc, ◌+◌, ◌<◌, ◌≤◌, Bool, true, false, cond, List, [], ◌∷◌, length, get_or, filter, inl, inr, refl, ap, sym, subst, ◌∙◌, arith}
use Rattle.std.proofs.lemmas.Bool.{cases_lt, false≢true}
use Rattle.std.specs.List.{range_with_len, Contains}
use Rattle.cron_timetable.specs.Fields.{Fields, fires}
use Rattle.cron_timetable.specs.Ticks.{NoneBetween}
use Rattle.cron_timetable.specs.declared.timetables.Interval.{Interval}
use Rattle.cron_timetable.proofs.UniqueLemmas.{clash}
use Rattle.run_planner.specs.Due.{pairs_from, neighbours}
use Rattle.run_planner.proofs.PlanLemmas.{ticks-cons_no, ticks-cons_yes}

-- ---- the elements of a list
pub contains_head : {X : Type 0} (x : X) (xs : List X) → Contains (x ∷ xs) x
contains_head x xs = (0, omega arith, refl)

pub contains_tail : {X : Type 0} (y : X) (xs : List X) (x : X) → Contains xs x → Contains (y ∷ xs) x
contains_tail y xs x h = (suc h.0, omega (arith, h.1), h.2)

contains_at : {X : Type 0} (y : X) (xs : List X) (x : X) (k : ℕ) → k < length (y ∷ xs) → get_or (y ∷ xs) k x ≡ x → (y ≡ x) ⊎ Contains xs x
contains_at y xs x zero below e = inl e
contains_at y xs x (suc k) below e = inr (k, omega arith, e)

pub contains_cases : {X : Type 0} (y : X) (xs : List X) (x : X) → Contains (y ∷ xs) x → (y ≡ x) ⊎ Contains xs x
contains_cases y xs x h = contains_at y xs x h.0 h.1 h.2

pub contains_first : {X : Type 0} (y : X) (xs : List X) (x : X) → y ≡ x → Contains (y ∷ xs) x
contains_first y xs x e = (0, omega arith, e)

pub contains_none : {X : Type 0} (x : X) → Contains [] x → ⊥
contains_none x h = omega (arith, h.1)

-- a filter has the elements that pass
pub filter_has : {X : Type 0} (p : X → Bool) (xs : List X) (x : X) → Contains xs x → p x ≡ true → Contains (filter p xs) x
filter_has p [] x h e = h
filter_has p (y ∷ ys) x h e =
    elim (p y) as (λ b. p y ≡ b → Contains (cond b (y ∷ filter p ys) (filter p ys)) x) [
      | true ↦ λ on. elim (contains_cases y ys x h) [
        | inl same ↦ contains_first y (filter p ys) x same
        | inr later ↦ contains_tail y (filter p ys) x (filter_has p ys x later e)
      ]
      | false ↦ λ off. elim (contains_cases y ys x h) [
        | inl same ↦ absurd (false≢true (sym off ∙ (ap p same ∙ e)))
        | inr later ↦ filter_has p ys x later e
      ]
    ] refl

-- and no others
pub filter_from : {X : Type 0} (p : X → Bool) (xs : List X) (x : X) → Contains (filter p xs) x → Contains xs x × (p x ≡ true)
filter_from p [] x = λ h. absurd (contains_none x h)
filter_from p (y ∷ ys) x =
    elim (p y) as (λ b. p y ≡ b → Contains (cond b (y ∷ filter p ys) (filter p ys)) x → Contains (y ∷ ys) x × (p x ≡ true)) [
      | true ↦ λ on h. elim (contains_cases y (filter p ys) x h) [
        | inl same ↦ (contains_first y ys x same, sym (ap p same) ∙ on)
        | inr later ↦ let r = filter_from p ys x later in (contains_tail y ys x r.0, r.1)
      ]
      | false ↦ λ off h. let r = filter_from p ys x h in (contains_tail y ys x r.0, r.1)
    ] refl

-- ---- the neighbours in a range
-- what an interval between two ticks of a range has
pub record IsBetween (c : Fields) (low high : ℕ) (i : Interval) : Type 0 where
  pub start : fires c i.start ≡ true
  pub end : fires c i.end ≡ true
  pub rising : i.start < i.end
  pub between : NoneBetween c (i.start + 1) i.end
  pub from : low ≤ i.start
  pub below : i.end < high

wider : (c : Fields) (low a high top : ℕ) (i : Interval) → a ≤ low → high ≤ top → IsBetween c low high i → IsBetween c a top i
wider c low a high top i from to h = record {
  start = h.start;
  end = h.end;
  rising = h.rising;
  between = h.between;
  from = omega (arith, h.from);
  below = omega (arith, h.below);
}

more_gap : (c : Fields) (a low : ℕ) → NoneBetween c (a + 1) low → fires c low ≡ false → NoneBetween c (a + 1) (low + 1)
more_gap c a low none off k from below =
    elim (cases_lt k low) [ inl h ↦ none k from h | inr h ↦ let e : low ≡ k = omega arith in subst (λ (n : ℕ). fires c n ≡ false) e off ]

no_gap : (c : Fields) (a : ℕ) → NoneBetween c (a + 1) (a + 1)
no_gap c a k from below = absurd (omega arith)

abbrev pub ticks : Fields → ℕ → ℕ → List ℕ
ticks c low n = filter (fires c) (range_with_len low n)

abbrev pub interval : ℕ → ℕ → Interval
interval a b = record { start = a; end = b }

pub same_interval : (a b : ℕ) (i : Interval) → a ≡ i.start → b ≡ i.end → interval a b ≡ i
same_interval a b i starts ends = ap (λ (n : ℕ). interval n b) starts ∙ ap (interval i.start) ends

pairs_sound : (c : Fields) (a low n : ℕ) (i : Interval) → fires c a ≡ true → a < low → NoneBetween c (a + 1) low → Contains (pairs_from a (ticks c low n)) i → IsBetween c a (low + n) i
pairs_sound c a low zero i tick above none h = absurd (contains_none i h)
pairs_sound c a low (suc n) i tick above none h =
    elim (fires c low) as (λ v. fires c low ≡ v → IsBetween c a (low + suc n) i) [
      | true ↦ λ on. elim (contains_cases (interval a low) (pairs_from low (ticks c (low + 1) n)) i (subst (λ (xs : List ℕ). Contains (pairs_from a xs) i) (ticks-cons_yes c low n on) h)) [
        | inl same ↦
            let first : IsBetween c a (low + suc n) (interval a low) =
            record { start = tick; end = on; rising = above; between = none; from = omega arith; below = omega arith } in
            subst (λ (j : Interval). IsBetween c a (low + suc n) j) same first
        | inr later ↦ wider c low a (low + 1 + n) (low + suc n) i (omega arith) (omega arith) (pairs_sound c low (low + 1) n i on (omega arith) (no_gap c low) later)
      ]
      | false ↦ λ off.
          wider c a a (low + 1 + n) (low + suc n) i (omega arith) (omega arith)
          (pairs_sound c a (low + 1) n i tick (omega arith) (more_gap c a low none off) (subst (λ (xs : List ℕ). Contains (pairs_from a xs) i) (ticks-cons_no c low n off) h))
    ] refl

pairs_complete : (c : Fields) (a low n : ℕ) (i : Interval) → a < low → NoneBetween c (a + 1) low → IsBetween c a (low + n) i → Contains (pairs_from a (ticks c low n)) i
pairs_complete c a low zero i above none h =
    absurd (clash c (a + 1) low i.end none (omega (arith, h.from, h.rising)) (omega (arith, h.below)) h.end)
pairs_complete c a low (suc n) i above none h =
    let ends : low ≤ i.end =
    elim (cases_lt i.end low) [ inl less ↦ absurd (clash c (a + 1) low i.end none (omega (arith, h.from, h.rising)) less h.end) | inr more ↦ more ] in
    elim (fires c low) as (λ v. fires c low ≡ v → Contains (pairs_from a (ticks c low (suc n))) i) [
      | true ↦ λ on. subst (λ (xs : List ℕ). Contains (pairs_from a xs) i) (sym (ticks-cons_yes c low n on)) (elim (cases_lt a i.start) [
        | inl later ↦
            let starts : low ≤ i.start =
            elim (cases_lt i.start low) [ inl less ↦ absurd (clash c (a + 1) low i.start none (omega arith) less h.start) | inr more ↦ more ] in
            contains_tail (interval a low) (pairs_from low (ticks c (low + 1) n)) i
            (pairs_complete c low (low + 1) n i (omega arith) (no_gap c low) (record {
              start = h.start;
              end = h.end;
              rising = h.rising;
              between = h.between;
              from = starts;
              below = omega (arith, h.below);
            }))
        | inr at ↦
            let here : i.end ≤ low =
            elim (cases_lt low i.end) [ inl less ↦ absurd (clash c (i.start + 1) i.end low h.between (omega arith) less on) | inr more ↦ more ] in
            contains_first (interval a low) (pairs_from low (ticks c (low + 1) n)) i (same_interval a low i (omega (arith, h.from)) (omega arith))
      ])
      | false ↦ λ off.
          subst (λ (xs : List ℕ). Contains (pairs_from a xs) i) (sym (ticks-cons_no c low n off))
          (pairs_complete c a (low + 1) n i (omega arith) (more_gap c a low none off) (wider c a a (low + suc n) (low + 1 + n) i (omega arith) (omega arith) h))
    ] refl

pub neighbours_sound : (c : Fields) (low n : ℕ) (i : Interval) → Contains (neighbours (ticks c low n)) i → IsBetween c low (low + n) i
neighbours_sound c low zero i h = absurd (contains_none i h)
neighbours_sound c low (suc n) i h =
    elim (fires c low) as (λ v. fires c low ≡ v → IsBetween c low (low + suc n) i) [
      | true ↦ λ on.
          wider c low low (low + 1 + n) (low + suc n) i (omega arith) (omega arith)
          (pairs_sound c low (low + 1) n i on (omega arith) (no_gap c low) (subst (λ (xs : List ℕ). Contains (neighbours xs) i) (ticks-cons_yes c low n on) h))
      | false ↦ λ off.
          wider c (low + 1) low (low + 1 + n) (low + suc n) i (omega arith) (omega arith)
          (neighbours_sound c (low + 1) n i (subst (λ (xs : List ℕ). Contains (neighbours xs) i) (ticks-cons_no c low n off) h))
    ] refl

pub neighbours_complete : (c : Fields) (low n : ℕ) (i : Interval) → IsBetween c low (low + n) i → Contains (neighbours (ticks c low n)) i
neighbours_complete c low zero i h = absurd (omega (arith, h.from, h.rising, h.below))
neighbours_complete c low (suc n) i h =
    elim (fires c low) as (λ v. fires c low ≡ v → Contains (neighbours (ticks c low (suc n))) i) [
      | true ↦ λ on.
          subst (λ (xs : List ℕ). Contains (neighbours xs) i) (sym (ticks-cons_yes c low n on))
          (pairs_complete c low (low + 1) n i (omega arith) (no_gap c low) (wider c low low (low + suc n) (low + 1 + n) i (omega arith) (omega arith) h))
      | false ↦ λ off.
          let starts : low < i.start =
          elim (cases_lt low i.start) [
            | inl less ↦ less
            | inr at ↦ let e : i.start ≡ low = omega (arith, h.from) in absurd (false≢true (sym off ∙ (ap (fires c) (sym e) ∙ h.start)))
          ] in
          subst (λ (xs : List ℕ). Contains (neighbours xs) i) (sym (ticks-cons_no c low n off))
          (neighbours_complete c (low + 1) n i (record {
            start = h.start;
            end = h.end;
            rising = h.rising;
            between = h.between;
            from = omega arith;
            below = omega (arith, h.below);
          }))
    ] refl
