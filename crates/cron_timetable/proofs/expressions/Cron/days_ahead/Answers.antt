use Rattle.std.proofs.Common.{◌≡◌, ◌∙◌, arith, sym, ap, inl, inr}
use Rattle.std.proofs.lemmas.Bool.{cases_lt}
use Rattle.moment_core.specs.Calendar.{date_of, weekday_of}
use Rattle.moment_core.specs.declared.calendar.Date.{Date}
use Rattle.cron_timetable.specs.Sets.{has}
use Rattle.cron_timetable.specs.Fields.{Fields}
use Rattle.cron_timetable.proofs.JumpLemmas.{day_fires-neither, day_fires-no_day, day_fires-no_weekday, day_fires-day, day_fires-weekday, day_fires-both}
use Rattle.cron_timetable.proofs.expressions.Cron.days_ahead.Goals as goal

pub returns-then-restricts_both-clause-none : goal.returns-then-restricts_both-clause-none
returns-then-restricts_both-clause-none c =
    let today = ap (λ (d : Date). d.day) c.date_at.ensures.date in
    λ k from below turn.
    day_fires-neither _ k (sym c.restricts_both.ensures ∙ c.if-restricts_both.true)
    (sym (ap (λ (f : Fields). has f.days (date_of k).day) c.self.view_is) ∙ c.least_from.ensures.none (date_of k).day (omega arith) (omega arith))
    (sym (ap (λ (f : Fields). has f.weekdays (weekday_of k)) c.self.view_is) ∙ c.least_from-2.ensures.none (weekday_of k) (omega arith) (omega arith))

pub returns-then-restricts_both-clause-stays : goal.returns-then-restricts_both-clause-stays
returns-then-restricts_both-clause-stays c none =
    let today = ap (λ (d : Date). d.day) c.date_at.ensures.date in
    let both = sym c.restricts_both.ensures ∙ c.if-restricts_both.true in
    elim (cases_lt c.from-day.result c.least_from.result) [
      | inl later ↦
          let now : c.least_from-2.result ≡ weekday_of c.args.epoch_day = omega arith in
          day_fires-weekday _ c.args.epoch_day both
          (sym (ap (λ (f : Fields). has f.weekdays (weekday_of c.args.epoch_day)) c.self.view_is) ∙ (sym (ap (has c.self.inside.weekdays) now) ∙ c.least_from-2.ensures.found (omega arith)))
      | inr here ↦
          let now : c.least_from.result ≡ (date_of c.args.epoch_day).day = omega arith in
          day_fires-day _ c.args.epoch_day both
          (sym (ap (λ (f : Fields). has f.days (date_of c.args.epoch_day).day) c.self.view_is) ∙ (sym (ap (has c.self.inside.days) now) ∙ c.least_from.ensures.found (omega arith)))
    ]

pub returns-else-restricts_both-clause-none : goal.returns-else-restricts_both-clause-none
returns-else-restricts_both-clause-none c =
    let today = ap (λ (d : Date). d.day) c.date_at.ensures.date in
    let one = sym c.restricts_both.ensures ∙ c.if-restricts_both.false in
    λ k from below turn.
    elim (cases_lt (date_of k).day c.least_from.result) [
      | inl off ↦
          day_fires-no_day _ k one
          (sym (ap (λ (f : Fields). has f.days (date_of k).day) c.self.view_is) ∙ c.least_from.ensures.none (date_of k).day (omega arith) off)
      | inr on ↦
          day_fires-no_weekday _ k one
          (sym (ap (λ (f : Fields). has f.weekdays (weekday_of k)) c.self.view_is) ∙ c.least_from-2.ensures.none (weekday_of k) (omega arith) (omega arith))
    ]

pub returns-else-restricts_both-clause-stays : goal.returns-else-restricts_both-clause-stays
returns-else-restricts_both-clause-stays c none =
    let today = ap (λ (d : Date). d.day) c.date_at.ensures.date in
    let day : c.least_from.result ≡ (date_of c.args.epoch_day).day = omega arith in
    let weekday : c.least_from-2.result ≡ weekday_of c.args.epoch_day = omega arith in
    day_fires-both _ c.args.epoch_day (sym c.restricts_both.ensures ∙ c.if-restricts_both.false)
    (sym (ap (λ (f : Fields). has f.days (date_of c.args.epoch_day).day) c.self.view_is) ∙ (sym (ap (has c.self.inside.days) day) ∙ c.least_from.ensures.found (omega arith)))
    (sym (ap (λ (f : Fields). has f.weekdays (weekday_of c.args.epoch_day)) c.self.view_is) ∙ (sym (ap (has c.self.inside.weekdays) weekday) ∙ c.least_from-2.ensures.found (omega arith)))
