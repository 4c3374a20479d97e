-- The latest due interval is the last one of the list.
use Rattle.std.proofs.Common.{◌≡◌, ◌↔◌, ℕ, ◌+◌, ◌<◌, ◌≤◌, true, List, [], ◌∷◌, Option, None, Some, option_to_list, inl, inr, ap, sym, refl, arith, nat_lt}
use Rattle.std.proofs.lemmas.Bool.{ltb-true, and_parts, cases_lt}
use Rattle.std.specs.List.{list_all, Contains}
use Rattle.moment_core.specs.Moments.{seconds_end}
use Rattle.cron_timetable.specs.Fields.{Fields}
use Rattle.cron_timetable.specs.Ticks.{IsGreatestTickBelow}
use Rattle.cron_timetable.specs.Intervals.{empty_at}
use Rattle.cron_timetable.specs.declared.timetables.Interval.{Interval}
use Rattle.cron_timetable.specs.declared.timetables.Timetable.{Timetable}
use Rattle.cron_timetable.specs.declared.timetables.Timetable.TheVariants.{Cron, Trigger, Never}
use Rattle.cron_timetable.proofs.UniqueLemmas.{clash}
use Rattle.run_planner.specs.Due.{is_up_to, due_intervals, last_alone, starts_rise}
use Rattle.run_planner.specs.Latest.{IsDue, IsLatestDue, LatestDue}
use Rattle.run_planner.proofs.RiseLemmas.{due_rise}
use Rattle.run_planner.proofs.MemberLemmas.{contains_head, contains_tail, contains_cases, contains_none}
use Rattle.run_planner.proofs.DueLemmas.{due_sound, due_complete, due_nothing}

-- ---- the last of a list
-- an element after which none starts is the last
pub last_of : (is : List Interval) (i : Interval) → starts_rise is ≡ true → Contains is i → ((j : Interval) → Contains is j → j.start ≤ i.start) → last_alone is ≡ i ∷ []
last_of [] i rises h latest = absurd (contains_none i h)
last_of (x ∷ []) i rises h latest =
    elim (contains_cases x [] i h) [ inl same ↦ ap (λ (j : Interval). j ∷ []) same | inr later ↦ absurd (contains_none i later) ]
last_of (x ∷ y ∷ is) i rises h latest =
    elim (contains_cases x (y ∷ is) i h) [
      | inl same ↦
          let before : x.start < y.start = ltb-true x.start y.start (and_parts (nat_lt x.start y.start) _ (and_parts (list_all (λ (j : Interval). nat_lt x.start j.start) (y ∷ is)) _ rises).0).0 in
          let after : y.start ≤ i.start = latest y (contains_tail x (y ∷ is) y (contains_head y is)) in
          let starts : x.start ≡ i.start = ap (λ (j : Interval). j.start) same in
          absurd (omega arith)
      | inr later ↦
          last_of (y ∷ is) i (and_parts (list_all (λ (j : Interval). nat_lt x.start j.start) (y ∷ is)) _ rises).1 later (λ j g. latest j (contains_tail x (y ∷ is) j g))
    ]

-- the latest due interval is the last of the list
pub latest_last : (x : Timetable) (first t : ℕ) (last : Option ℕ) (r : Option Interval) → t < seconds_end → LatestDue x first last t r → option_to_list r ≡ last_alone (due_intervals x first last t)
latest_last x first t last None range h =
    sym (ap last_alone (due_nothing x first t last range h))
latest_last x first t last (Some i) range h =
    sym (last_of (due_intervals x first last t) i (due_rise x first last t) (due_complete x first t last i h.due)
    (λ j g. h.latest j (due_sound x first t last j range g)))

pub never_last : (first t : ℕ) (last : Option ℕ) → option_to_list None ≡ last_alone (due_intervals Never first last t)
unfolding due_intervals
never_last first t last = refl

-- ---- the first date of a cron expression
-- what is due is due from any earlier first date on, too
from_zero : (c : Fields) (first t : ℕ) (last : Option ℕ) (i : Interval) → IsDue (Cron c) first last t i → IsDue (Cron c) 0 last t i
from_zero c first t last i h = record { interval = h.interval; from = omega arith; up_to = h.up_to; ended = h.ended }

pub none_from : (c : Fields) (first t : ℕ) (last : Option ℕ) → LatestDue (Cron c) 0 last t None → LatestDue (Cron c) first last t None
none_from c first t last h i due = h i (from_zero c first t last i due)

pub latest_from : (c : Fields) (first t : ℕ) (last : Option ℕ) (i : Interval) → IsLatestDue (Cron c) 0 last t i → first ≤ i.start → LatestDue (Cron c) first last t (Some i)
latest_from c first t last i h from = record {
  due = record { interval = h.due.interval; from = from; up_to = h.due.up_to; ended = h.due.ended };
  latest = λ j due. h.latest j (from_zero c first t last j due);
}

pub latest_too_early : (c : Fields) (first t : ℕ) (last : Option ℕ) (i : Interval) → IsLatestDue (Cron c) 0 last t i → i.start < first → LatestDue (Cron c) first last t None
latest_too_early c first t last i h early j due = omega (arith, h.latest j (from_zero c first t last j due), due.from)

-- ---- the latest tick of a trigger timetable
-- the bound of a start: past neither t nor the last date
abbrev pub IsBound : Option ℕ → ℕ → ℕ → Type 0
IsBound last t bound = (m : ℕ) → ((m ≤ t) × (is_up_to last m ≡ true)) ↔ (m ≤ bound)

-- what is due starts by the bound
below_bound : (c : Fields) (first t bound : ℕ) (last : Option ℕ) (j : Interval) → IsBound last t bound → IsDue (Trigger c) first last t j → j.start ≤ bound
below_bound c first t bound last j h due = (h j.start).0 (omega (arith, due.interval.1, due.ended), due.up_to)

-- the interval at the greatest tick up to the bound is the latest one
pub tick_latest : (c : Fields) (first t bound tick : ℕ) (last : Option ℕ) → IsBound last t bound → IsGreatestTickBelow c (bound + 1) tick → first ≤ tick → LatestDue (Trigger c) first last t (Some (empty_at tick))
tick_latest c first t bound tick last h found from =
    let within : (tick ≤ t) × (is_up_to last tick ≡ true) = (h tick).1 (omega (arith, found.below)) in
    record {
      due = record { interval = (found.tick, refl); from = from; up_to = within.1; ended = within.0 };
      latest = λ j due.
          elim (cases_lt tick j.start) [
            | inl later ↦ absurd (clash c (tick + 1) (bound + 1) j.start found.greatest (omega arith) (omega (arith, below_bound c first t bound last j h due)) due.interval.0.1)
            | inr more ↦ more
          ];
    }
