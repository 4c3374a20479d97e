-- What a walk may pass over: starts that have a run are wanted no more, so the walk may begin after them.
use Rattle.std.proofs.Common.{◌≡◌, ℕ, zero, suc, ◌+◌, ◌-◌, ◌<◌, ◌≤◌, Bool, true, false, cond, not, List, [], ◌∷◌, map, filter, Option, inl, inr, refl, ap, sym, ◌∙◌, arith}
use Rattle.std.proofs.lemmas.Bool.{cases_lt}
use Rattle.std.specs.List.{range_with_len}
use Rattle.cron_timetable.specs.Fields.{Fields, fires}
use Rattle.cron_timetable.specs.Intervals.{empty_at}
use Rattle.cron_timetable.specs.declared.timetables.Interval.{Interval}
use Rattle.cron_timetable.specs.declared.timetables.Timetable.{Timetable}
use Rattle.cron_timetable.specs.declared.timetables.Timetable.TheVariants.{Cron, Trigger, Once, Never}
use Rattle.run_planner.specs.Index.{has_date}
use Rattle.run_planner.specs.Due.{ticks_between, pairs_from, neighbours, is_up_to, due_intervals, without_runs}
use Rattle.run_planner.specs.Walks.{HasPassedTicks, HasPassed}
use Rattle.run_planner.proofs.PlanLemmas.{ticks-cons_no, ticks-none, ticks-first}

-- an interval that has a run is wanted no more
dropped : (dates : List ℕ) (b : Bool) (i : Interval) (is : List Interval) → has_date dates i.start ≡ true → without_runs dates (cond b (i ∷ is) is) ≡ without_runs dates is
dropped dates true i is there = ap (λ v. cond (not v) (i ∷ without_runs dates is) (without_runs dates is)) there
dropped dates false i is there = refl

ticks-empty : (c : Fields) (low high : ℕ) → high ≤ low → ticks_between c low high ≡ []
ticks-empty c low high past = ticks-none c low high (λ k from below. absurd (omega arith))

ticks-off : (c : Fields) (a high : ℕ) → fires c a ≡ false → ticks_between c a high ≡ ticks_between c (a + 1) high
unfolding ticks_between
ticks-off c a high off =
    elim (cases_lt a high) [
      | inl inside ↦
          let len : high - a ≡ suc (high - (a + 1)) = omega arith in
          ap (λ (k : ℕ). filter (fires c) (range_with_len a k)) len ∙ ticks-cons_no c a (high - (a + 1)) off
      | inr past ↦ ticks-empty c a high past ∙ sym (ticks-empty c (a + 1) high (omega arith))
    ]

-- those of some intervals that start not past `last` and have no run
abbrev wanted : List ℕ → Option ℕ → List Interval → List Interval
wanted dates last is = without_runs dates (filter (λ (i : Interval). is_up_to last i.start) is)

-- whatever intervals are made of ticks: where the first tick has a run, it makes no difference
abbrev Skips : List ℕ → Option ℕ → (List ℕ → List Interval) → Type 0
Skips dates last make = (a : ℕ) (ts : List ℕ) → has_date dates a ≡ true → wanted dates last (make (a ∷ ts)) ≡ wanted dates last (make ts)

triggers_skip : (dates : List ℕ) (last : Option ℕ) → Skips dates last (map empty_at)
triggers_skip dates last a ts there = dropped dates (is_up_to last a) (empty_at a) (filter (λ (i : Interval). is_up_to last i.start) (map empty_at ts)) there

neighbours_skip : (dates : List ℕ) (last : Option ℕ) → Skips dates last neighbours
neighbours_skip dates last a [] there = refl
neighbours_skip dates last a (b ∷ ts) there =
    dropped dates (is_up_to last a) (record { start = a; end = b }) (filter (λ (i : Interval). is_up_to last i.start) (pairs_from b ts)) there

-- a stretch of seconds in which each tick has a run makes no difference
ticks_passed : (dates : List ℕ) (last : Option ℕ) (make : List ℕ → List Interval) (c : Fields) (low n high : ℕ) → Skips dates last make → ((a : ℕ) → low ≤ a → a < low + n → fires c a ≡ true → has_date dates a ≡ true)
    → wanted dates last (make (ticks_between c low high)) ≡ wanted dates last (make (ticks_between c (low + n) high))
ticks_passed dates last make c low zero high skips dated =
    let same : low ≡ low + 0 = omega arith in ap (λ (k : ℕ). wanted dates last (make (ticks_between c k high))) same
ticks_passed dates last make c low (suc n) high skips dated =
    let next : low + 1 + n ≡ low + suc n = omega arith in
    let rest = ticks_passed dates last make c (low + 1) n high skips (λ a from below on. dated a (omega arith) (omega arith) on) ∙ ap (λ (k : ℕ). wanted dates last (make (ticks_between c k high))) next in
    elim (fires c low) as (λ v. fires c low ≡ v → wanted dates last (make (ticks_between c low high)) ≡ wanted dates last (make (ticks_between c (low + suc n) high))) [
      | true ↦ λ on. elim (cases_lt low high) [
        | inl inside ↦
            ap (λ ts. wanted dates last (make ts)) (ticks-first c low high low (omega arith) inside on (λ k from below. absurd (omega arith)))
            ∙ (skips low (ticks_between c (low + 1) high) (dated low (omega arith) (omega arith) on) ∙ rest)
        | inr past ↦ ap (λ ts. wanted dates last (make ts)) (ticks-empty c low high past ∙ sym (ticks-empty c (low + suc n) high (omega arith)))
      ]
      | false ↦ λ off. ap (λ ts. wanted dates last (make ts)) (ticks-off c low high off) ∙ rest
    ] refl

-- and so of what lies before the cursor
cursor_passed : (dates : List ℕ) (last : Option ℕ) (make : List ℕ → List Interval) (c : Fields) (start cursor high : ℕ) → Skips dates last make → HasPassedTicks dates c start cursor
    → wanted dates last (make (ticks_between c start high)) ≡ wanted dates last (make (ticks_between c cursor high))
cursor_passed dates last make c start cursor high skips h =
    let reached : start + (cursor - start) ≡ cursor = omega (arith, h.from) in
    ticks_passed dates last make c start (cursor - start) high skips (λ a from below on. h.dated a from (omega (arith, h.from)) on)
    ∙ ap (λ (k : ℕ). wanted dates last (make (ticks_between c k high))) reached

-- what is wanted from the start on is what is wanted from the cursor on
pub wanted_from : (x : Timetable) (dates : List ℕ) (start cursor : ℕ) (last : Option ℕ) (t : ℕ) → HasPassed dates x start cursor → without_runs dates (due_intervals x start last t) ≡ without_runs dates (due_intervals x cursor last t)
unfolding due_intervals
wanted_from (Cron c) dates start cursor last t h = cursor_passed dates last neighbours c start cursor (t + 1) (neighbours_skip dates last) h
wanted_from (Trigger c) dates start cursor last t h = cursor_passed dates last (map empty_at) c start cursor (t + 1) (triggers_skip dates last) h
wanted_from Once dates start cursor last t h = ap (λ (n : ℕ). without_runs dates (due_intervals Once n last t)) (sym h)
wanted_from Never dates start cursor last t h = refl

-- what is passed stays so where dates are added
pub passed_beside : (x : Timetable) (dates more : List ℕ) (start cursor : ℕ) → ((d : ℕ) → has_date dates d ≡ true → has_date more d ≡ true) → HasPassed dates x start cursor → HasPassed more x start cursor
passed_beside (Cron c) dates more start cursor kept h = record { from = h.from; dated = λ a from below on. kept a (h.dated a from below on) }
passed_beside (Trigger c) dates more start cursor kept h = record { from = h.from; dated = λ a from below on. kept a (h.dated a from below on) }
passed_beside Once dates more start cursor kept h = h
passed_beside Never dates more start cursor kept h = h
