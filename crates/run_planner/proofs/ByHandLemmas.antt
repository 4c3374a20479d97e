-- The interval of a run by hand is the latest that has ended.
use Rattle.std.proofs.Common.{◌≡◌, ℕ, ◌<◌, ◌≤◌, true, false, List, Option, None, Some, Result, Err, option_to_list, inl, inr, ap, sym, refl, ◌∙◌, arith}
use Rattle.std.proofs.lemmas.Bool.{cases_lt, false≢true}
use Rattle.std.specs.Option.{ok_or}
use Rattle.moment_core.specs.Moments.{seconds_end}
use Rattle.cron_timetable.specs.Fields.{Fields}
use Rattle.cron_timetable.specs.Intervals.{ManualInterval, IsLastIntervalTo}
use Rattle.cron_timetable.specs.declared.timetables.Interval.{Interval}
use Rattle.cron_timetable.specs.declared.timetables.Timetable.{Timetable}
use Rattle.cron_timetable.specs.declared.timetables.Timetable.TheVariants.{Cron, Trigger, Once, Never}
use Rattle.graph_file.specs.declared.graph_specs.GraphSpec.{GraphSpec}
use Rattle.run_planner.specs.Index.{has_date}
use Rattle.run_planner.specs.Latest.{IsDue, LatestDue}
use Rattle.run_planner.specs.ByHand.{manual_intervals, the_interval, by_hand}
use Rattle.run_planner.specs.declared.by_hand.PlanFault.{PlanFault}
use Rattle.run_planner.specs.declared.by_hand.PlanFault.TheVariants.{RunExists, NoInterval}
use Rattle.run_planner.proofs.LatestLemmas.{latest_last}

-- an interval that has ended by t starts no later than the one whose end is the greatest tick at or before t
no_later : (c : Fields) (t : ℕ) (i j : Interval) → IsLastIntervalTo c t i → IsDue (Cron c) 0 None t j → j.start ≤ i.start
no_later c t i j h due =
    elim (cases_lt i.start j.start) [
      | inl later ↦
          elim (cases_lt j.start i.end) [
            | inl inside ↦ absurd (false≢true (sym (h.interval.between j.start (omega arith) inside) ∙ due.interval.start.1))
            | inr past ↦ absurd (false≢true (sym (h.last j.end (omega (arith, due.interval.rising)) (omega (arith, due.ended))) ∙ due.interval.end.1))
          ]
      | inr before ↦ before
    ]

manual_latest : (c : Fields) (t : ℕ) (r : Option Interval) → ManualInterval (Cron c) t r → LatestDue (Cron c) 0 None t r
manual_latest c t None h = λ i due. h i.start i.end due.interval due.ended
manual_latest c t (Some i) h = record {
  due = record { interval = h.interval; from = omega arith; up_to = refl; ended = h.to };
  latest = λ j due. no_later c t i j h due;
}

pub manual_is : (x : Timetable) (t : ℕ) (r : Option Interval) → t < seconds_end → ManualInterval x t r → option_to_list r ≡ manual_intervals x t
manual_is (Cron c) t r range h = latest_last (Cron c) 0 t None r range (manual_latest c t r h)
manual_is (Trigger c) t r range h = ap option_to_list h
manual_is Once t r range h = ap option_to_list h
manual_is Never t r range h = ap option_to_list h

chosen_is : (r : Option Interval) → ok_or r NoInterval ≡ the_interval (option_to_list r)
chosen_is (Some i) = refl
chosen_is None = refl

-- the same, beside dates of which t is none
pub by_hand_free : (g : GraphSpec) (t : ℕ) (dates : List ℕ) (r : Option Interval) → t < seconds_end → has_date dates t ≡ false → ManualInterval g.schedule t r → ok_or r NoInterval ≡ by_hand g t dates
by_hand_free g t dates r range free h =
    chosen_is r
    ∙ (ap the_interval (manual_is g.schedule t r range h)
    ∙ sym (ap (λ b. let given : Result Interval PlanFault = elim b [ true ↦ Err RunExists | false ↦ the_interval (manual_intervals g.schedule t) ] in given) free))
