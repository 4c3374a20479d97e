use Rattle.std.proofs.Common.{◌≡◌, ◌+◌, ◌*◌, ◌-◌, ◌%◌, ◌/◌, ◌∙◌, arith, sym, ap, subst}
use Rattle.cron_timetable.specs.Sets.{has}
use Rattle.cron_timetable.specs.Fields.{Fields}
use Rattle.cron_timetable.specs.Ticks.{NoneBetween}
use Rattle.cron_timetable.proofs.TickLemmas.{NoneBetween-days, NoneBetween-hours, NoneBetween-minutes, fires-all}
use Rattle.cron_timetable.proofs.expressions.Cron.jump_back.Goals as goal

pub returns-then-end_day-day-clause-none : goal.returns-then-end_day-day-clause-none
returns-then-end_day-day-clause-none c =
    NoneBetween-days _ c.jump_days_back-end_day.result ((c.args.end - 60) / 86400 + 1) _ _
    (λ k from below. c.jump_days_back-end_day.ensures.none k from (omega arith)) (omega arith) (omega arith)

pub returns-then-end_hour-hour-clause-none : goal.returns-then-end_hour-hour-clause-none
returns-then-end_hour-hour-clause-none c =
    let start = (c.args.end - 60) / 86400 * 86400 + c.from-then-end_hour-hour.result * 3600 in
    subst (λ (f : Fields). NoneBetween f start c.args.end) c.self.view_is
    (NoneBetween-hours _ ((c.args.end - 60) / 86400) c.past_greatest_to-end_hour.result ((c.args.end - 60) % 86400 / 3600 + 1) start _
    (λ k from below. c.past_greatest_to-end_hour.ensures.none k from (omega arith)) (omega arith) (omega arith) (omega arith))

pub returns-clause-none : goal.returns-clause-none
returns-clause-none c =
    let start = (c.args.end - 60) / 3600 * 3600 + c.from-2.result * 60 in
    subst (λ (f : Fields). NoneBetween f start c.args.end) c.self.view_is
    (NoneBetween-minutes _ ((c.args.end - 60) / 3600) c.past_greatest_to-end_minute.result ((c.args.end - 60) % 3600 / 60 + 1) start _
    (λ k from below. c.past_greatest_to-end_minute.ensures.none k from (omega arith)) (omega arith) (omega arith) (omega arith))

pub returns-clause-stays : goal.returns-clause-stays
returns-clause-stays c here =
    let hour : c.past_greatest_to-end_hour.result - 1 ≡ (c.args.end - 60) % 86400 / 3600 = omega arith in
    let minute : c.past_greatest_to-end_minute.result - 1 ≡ (c.args.end - 60) % 3600 / 60 = omega arith in
    fires-all _ (c.args.end - 60) (omega arith)
    (sym (ap (λ (f : Fields). has f.minutes ((c.args.end - 60) % 3600 / 60)) c.self.view_is) ∙ (sym (ap (has c.self.inside.minutes) minute) ∙ c.past_greatest_to-end_minute.ensures.found (omega arith)))
    (sym (ap (λ (f : Fields). has f.hours ((c.args.end - 60) % 86400 / 3600)) c.self.view_is) ∙ (sym (ap (has c.self.inside.hours) hour) ∙ c.past_greatest_to-end_hour.ensures.found (omega arith)))
    (c.jump_days_back-end_day.ensures.stays (omega arith))
