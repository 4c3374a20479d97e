-- The due intervals of a timetable are its intervals within the bounds: no others, and each of them.
use Rattle.std.proofs.Common.{◌≡◌, ◌↔◌, ℕ, ◌+◌, ◌-◌, ◌<◌, ◌≤◌, ◌&&◌, true, false, List, [], ◌∷◌, map, Option, None, Some, nat_le, inl, inr, refl, ap, sym, ◌∙◌, arith}
use Rattle.std.proofs.lemmas.Bool.{cases_lt, false≢true, and_parts, and_from, leb-true, le-leb}
use Rattle.std.proofs.lemmas.Bool.Decides.{nat_tests}
use Rattle.std.specs.List.{Contains}
use Rattle.moment_core.specs.Moments.{seconds_end}
use Rattle.cron_timetable.specs.Intervals.{empty_at, IntervalFrom}
use Rattle.cron_timetable.specs.declared.timetables.Interval.{Interval}
use Rattle.cron_timetable.specs.declared.timetables.Timetable.{Timetable}
use Rattle.cron_timetable.specs.declared.timetables.Timetable.TheVariants.{Cron, Trigger, Once, Never}
use Rattle.cron_timetable.proofs.UniqueLemmas.{clash}
use Rattle.run_planner.specs.Due.{ticks_between, neighbours, is_up_to, due_intervals}
use Rattle.run_planner.specs.Latest.{IsIntervalOf, IsDue}
use Rattle.run_planner.proofs.MemberLemmas.{ticks, IsBetween, neighbours_sound, neighbours_complete, contains_head, contains_first, contains_cases, contains_none, filter_has, filter_from}
use Rattle.run_planner.proofs.TriggerLemmas.{IsTickIn, empties_sound, empties_complete}

pub due_sound : (x : Timetable) (first t : ℕ) (last : Option ℕ) (i : Interval) → t < seconds_end → Contains (due_intervals x first last t) i → IsDue x first last t i
unfolding due_intervals ticks_between
due_sound (Cron c) first t last i range h =
    let r = filter_from (λ (j : Interval). is_up_to last j.start) (neighbours (ticks c first (t + 1 - first))) i h in
    let b : IsBetween c first (first + (t + 1 - first)) i = neighbours_sound c first (t + 1 - first) i r.0 in
    let ended : i.end ≤ t = omega (arith, b.from, b.rising, b.below) in
    record {
      interval = record {
        start = (omega (arith, b.rising), b.start);
        end = (omega arith, b.end);
        rising = b.rising;
        between = b.between;
      };
      from = b.from;
      up_to = r.1;
      ended = ended;
    }
due_sound (Trigger c) first t last i range h =
    let r = filter_from (λ (j : Interval). is_up_to last j.start) (map empty_at (ticks c first (t + 1 - first))) i h in
    let b : IsTickIn c first (first + (t + 1 - first)) i = empties_sound c first (t + 1 - first) i r.0 in
    let ended : i.start ≤ t = omega (arith, b.from, b.below) in
    record {
      interval = ((omega arith, b.tick), b.empty);
      from = b.from;
      up_to = r.1;
      ended = omega (arith, b.empty);
    }
due_sound Once first t last i range h =
    let r = filter_from (λ (j : Interval). is_up_to last j.start && nat_le j.end t) (empty_at first ∷ []) i h in
    let both = and_parts (is_up_to last i.start) (nat_le i.end t) r.1 in
    elim (contains_cases (empty_at first) [] i r.0) [
      | inl same ↦ record {
        interval = sym same;
        from = omega (arith, ap (λ (j : Interval). j.start) same);
        up_to = both.0;
        ended = leb-true i.end t both.1;
      }
      | inr later ↦ absurd (contains_none i later)
    ]
due_sound Never first t last i range h = absurd (contains_none i h)

pub due_complete : (x : Timetable) (first t : ℕ) (last : Option ℕ) (i : Interval) → IsDue x first last t i → Contains (due_intervals x first last t) i
unfolding due_intervals ticks_between
due_complete (Cron c) first t last i h =
    filter_has (λ (j : Interval). is_up_to last j.start) (neighbours (ticks c first (t + 1 - first))) i
    (neighbours_complete c first (t + 1 - first) i (record {
      start = h.interval.start.1;
      end = h.interval.end.1;
      rising = h.interval.rising;
      between = h.interval.between;
      from = h.from;
      below = omega (arith, h.from, h.ended, h.interval.rising);
    }))
    h.up_to
due_complete (Trigger c) first t last i h =
    filter_has (λ (j : Interval). is_up_to last j.start) (map empty_at (ticks c first (t + 1 - first))) i
    (empties_complete c first (t + 1 - first) i (record {
      tick = h.interval.0.1;
      empty = h.interval.1;
      from = h.from;
      below = omega (arith, h.from, h.ended, h.interval.1);
    }))
    h.up_to
due_complete Once first t last i h =
    filter_has (λ (j : Interval). is_up_to last j.start && nat_le j.end t) (empty_at first ∷ []) i (contains_first (empty_at first) [] i (sym h.interval))
    (and_from (is_up_to last i.start) (nat_le i.end t) h.up_to (le-leb i.end t h.ended))
due_complete Never first t last i h = absurd h.interval

pub due_members : (x : Timetable) (first t : ℕ) (last : Option ℕ) (i : Interval) → t < seconds_end → Contains (due_intervals x first last t) i ↔ IsDue x first last t i
due_members x first t last i range = (due_sound x first t last i range, due_complete x first t last i)

-- ---- where nothing is due
nothing : (is : List Interval) → ((j : Interval) → Contains is j → ⊥) → is ≡ []
nothing [] none = refl
nothing (x ∷ is) none = absurd (none x (contains_head x is))

pub due_nothing : (x : Timetable) (first t : ℕ) (last : Option ℕ) → t < seconds_end → ((i : Interval) → IsDue x first last t i → ⊥) → due_intervals x first last t ≡ []
due_nothing x first t last range none =
    nothing (due_intervals x first last t) (λ j h. none j (due_sound x first t last j range h))

-- an interval starts no later than it ends
pub in_order : (x : Timetable) (first : ℕ) (i : Interval) → IsIntervalOf x first i → i.start ≤ i.end
in_order (Cron c) first i h = omega (arith, h.rising)
in_order (Trigger c) first i h = omega (arith, h.1)
in_order Once first i h = omega (arith, ap (λ (j : Interval). j.start) h, ap (λ (j : Interval). j.end) h)
in_order Never first i h = absurd h

pub none_before : (x : Timetable) (first t : ℕ) (last : Option ℕ) → t < seconds_end → t < first → due_intervals x first last t ≡ []
none_before x first t last range before =
    due_nothing x first t last range (λ j h. omega (arith, in_order x first j h.interval, h.from, h.ended))

-- an interval from `from` on starts and ends no sooner than the first
first_starts : (x : Timetable) (from : ℕ) (i j : Interval) → IntervalFrom x from (Some i) → IsIntervalOf x from j → from ≤ j.start → i.start ≤ j.start
first_starts (Cron c) from i j h g later =
    elim (cases_lt j.start i.start) [ inl less ↦ absurd (clash c from i.start j.start h.first later less g.start.1) | inr more ↦ more ]
first_starts (Trigger c) from i j h g later =
    elim (cases_lt j.start i.start) [ inl less ↦ absurd (clash c from i.start j.start h.tick.least later less g.0.1) | inr more ↦ more ]
first_starts Once from i j h g later = let e : i ≡ empty_at from = cc in omega (arith, ap (λ (k : Interval). k.start) e)
first_starts Never from i j h g later = absurd g

first_ends : (x : Timetable) (from : ℕ) (i j : Interval) → IntervalFrom x from (Some i) → IsIntervalOf x from j → from ≤ j.start → i.end ≤ j.end
first_ends (Cron c) from i j h g later =
    let starts : i.start ≤ j.start = first_starts (Cron c) from i j h g later in
    elim (cases_lt j.end i.end) [
      | inl less ↦ absurd (clash c (i.start + 1) i.end j.end h.interval.between (omega (arith, g.rising)) less g.end.1)
      | inr more ↦ more
    ]
first_ends (Trigger c) from i j h g later = omega (arith, first_starts (Trigger c) from i j h g later, h.empty, g.1)
first_ends Once from i j h g later =
    let e : i ≡ empty_at from = cc in
    omega (arith, ap (λ (k : Interval). k.end) e, ap (λ (k : Interval). k.end) g)
first_ends Never from i j h g later = absurd g

up_to_sooner : (last : Option ℕ) (a k : ℕ) → is_up_to last k ≡ true → a ≤ k → is_up_to last a ≡ true
up_to_sooner None a k on sooner = refl
up_to_sooner (Some m) a k on sooner = grind (arith, nat_tests)

no_interval : (x : Timetable) (from : ℕ) (j : Interval) → IntervalFrom x from None → IsIntervalOf x from j → from ≤ j.start → ⊥
no_interval (Cron c) from j none g later = none j.start j.end g later
no_interval (Trigger c) from j none g later = clash c from seconds_end j.start none later g.0.0 g.0.1
no_interval Once from j none g later = cc
no_interval Never from j none g later = g

-- where no interval is left, the first one has not ended, or it starts past `last`
pub none_left : (x : Timetable) (from t : ℕ) (last : Option ℕ) → t < seconds_end → IntervalFrom x from None → due_intervals x from last t ≡ []
none_left x from t last range none =
    due_nothing x from t last range (λ j h. no_interval x from j none h.interval h.from)

pub none_ended : (x : Timetable) (from t : ℕ) (last : Option ℕ) (i : Interval) → t < seconds_end → IntervalFrom x from (Some i) → t < i.end → due_intervals x from last t ≡ []
none_ended x from t last i range first later =
    due_nothing x from t last range (λ j h. omega (arith, first_ends x from i j first h.interval h.from, h.ended))

pub none_up_to : (x : Timetable) (from t : ℕ) (last : Option ℕ) (i : Interval) → t < seconds_end → IntervalFrom x from (Some i) → is_up_to last i.start ≡ false → due_intervals x from last t ≡ []
none_up_to x from t last i range first past =
    due_nothing x from t last range
    (λ j h. false≢true (sym past ∙ up_to_sooner last i.start j.start h.up_to (first_starts x from i j first h.interval h.from)))
