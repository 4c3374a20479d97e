-- The due intervals of a trigger timetable: its first tick, and then what is due from the second after on.
use Rattle.std.proofs.Common.{◌≡◌, ℕ, zero, suc, ◌+◌, ◌<◌, ◌≤◌, true, false, cond, List, [], ◌∷◌, map, filter, Option, inl, inr, refl, ap, sym, subst, ◌∙◌, arith}
use Rattle.std.proofs.lemmas.Bool.{cases_lt, false≢true}
use Rattle.std.specs.List.{Contains}
use Rattle.cron_timetable.specs.Fields.{Fields, fires}
use Rattle.cron_timetable.specs.Ticks.{NoneBetween, IsLeastTickFrom}
use Rattle.cron_timetable.specs.Intervals.{empty_at}
use Rattle.cron_timetable.specs.declared.timetables.Interval.{Interval}
use Rattle.cron_timetable.specs.declared.timetables.Timetable.TheVariants.{Trigger}
use Rattle.run_planner.specs.Due.{ticks_between, is_up_to, due_intervals}
use Rattle.run_planner.proofs.PlanLemmas.{ticks-cons_no, ticks-cons_yes, ticks-none, ticks-first}
use Rattle.run_planner.proofs.MemberLemmas.{ticks, same_interval, contains_tail, contains_cases, contains_first, contains_none}

-- the first tick, where it is due, and then what is due from the second after on
pub trigger_then_rest : (c : Fields) (from a : ℕ) (last : Option ℕ) (t : ℕ) → IsLeastTickFrom c from a → a ≤ t → is_up_to last a ≡ true → due_intervals (Trigger c) from last t ≡ empty_at a ∷ due_intervals (Trigger c) (a + 1) last t
unfolding due_intervals
trigger_then_rest c from a last t h inside ok =
    ap (λ ts. filter (λ i. is_up_to last i.start) (map empty_at ts)) (ticks-first c from (t + 1) a h.from (omega arith) h.tick.1 h.least)
    ∙ ap (λ v. cond v (empty_at a ∷ filter (λ i. is_up_to last i.start) (map empty_at (ticks_between c (a + 1) (t + 1)))) (filter (λ i. is_up_to last i.start) (map empty_at (ticks_between c (a + 1) (t + 1))))) ok

pub trigger_none : (c : Fields) (from : ℕ) (last : Option ℕ) (t : ℕ) → NoneBetween c from (t + 1) → due_intervals (Trigger c) from last t ≡ []
unfolding due_intervals
trigger_none c from last t none = ap (λ ts. filter (λ i. is_up_to last i.start) (map empty_at ts)) (ticks-none c from (t + 1) none)

-- ---- the ticks of a range, each with its empty interval
pub record IsTickIn (c : Fields) (low high : ℕ) (i : Interval) : Type 0 where
  pub tick : fires c i.start ≡ true
  pub empty : i.end ≡ i.start
  pub from : low ≤ i.start
  pub below : i.start < high

wider : (c : Fields) (low n : ℕ) (i : Interval) → IsTickIn c (low + 1) (low + 1 + n) i → IsTickIn c low (low + suc n) i
wider c low n i h = record { tick = h.tick; empty = h.empty; from = omega (arith, h.from); below = omega (arith, h.below) }

pub empties_sound : (c : Fields) (low n : ℕ) (i : Interval) → Contains (map empty_at (ticks c low n)) i → IsTickIn c low (low + n) i
empties_sound c low zero i h = absurd (contains_none i h)
empties_sound c low (suc n) i h =
    elim (fires c low) as (λ v. fires c low ≡ v → IsTickIn c low (low + suc n) i) [
      | true ↦ λ on. elim (contains_cases (empty_at low) (map empty_at (ticks c (low + 1) n)) i (subst (λ (xs : List ℕ). Contains (map empty_at xs) i) (ticks-cons_yes c low n on) h)) [
        | inl same ↦
            let first : IsTickIn c low (low + suc n) (empty_at low) = record { tick = on; empty = refl; from = omega arith; below = omega arith } in
            subst (λ (j : Interval). IsTickIn c low (low + suc n) j) same first
        | inr later ↦ wider c low n i (empties_sound c (low + 1) n i later)
      ]
      | false ↦ λ off. wider c low n i (empties_sound c (low + 1) n i (subst (λ (xs : List ℕ). Contains (map empty_at xs) i) (ticks-cons_no c low n off) h))
    ] refl

narrower : (c : Fields) (low n : ℕ) (i : Interval) → low < i.start → IsTickIn c low (low + suc n) i → IsTickIn c (low + 1) (low + 1 + n) i
narrower c low n i later h = record { tick = h.tick; empty = h.empty; from = omega arith; below = omega (arith, h.below) }

pub empties_complete : (c : Fields) (low n : ℕ) (i : Interval) → IsTickIn c low (low + n) i → Contains (map empty_at (ticks c low n)) i
empties_complete c low zero i h = absurd (omega (arith, h.from, h.below))
empties_complete c low (suc n) i h =
    elim (fires c low) as (λ v. fires c low ≡ v → Contains (map empty_at (ticks c low (suc n))) i) [
      | true ↦ λ on. subst (λ (xs : List ℕ). Contains (map empty_at xs) i) (sym (ticks-cons_yes c low n on)) (elim (cases_lt low i.start) [
        | inl later ↦ contains_tail (empty_at low) (map empty_at (ticks c (low + 1) n)) i (empties_complete c (low + 1) n i (narrower c low n i later h))
        | inr at ↦ contains_first (empty_at low) (map empty_at (ticks c (low + 1) n)) i (same_interval low low i (omega (arith, h.from)) (omega (arith, h.from, h.empty)))
      ])
      | false ↦ λ off.
          let later : low < i.start =
          elim (cases_lt low i.start) [
            | inl less ↦ less
            | inr at ↦ let e : i.start ≡ low = omega (arith, h.from) in absurd (false≢true (sym off ∙ (ap (fires c) (sym e) ∙ h.tick)))
          ] in
          subst (λ (xs : List ℕ). Contains (map empty_at xs) i) (sym (ticks-cons_no c low n off)) (empties_complete c (low + 1) n i (narrower c low n i later h))
    ] refl
