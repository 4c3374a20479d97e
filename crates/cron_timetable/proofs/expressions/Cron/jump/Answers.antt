use Rattle.std.proofs.Common.{◌≡◌, ◌+◌, ◌*◌, ◌%◌, ◌/◌, ◌∙◌, arith, sym, ap, subst}
use Rattle.cron_timetable.specs.Sets.{has}
use Rattle.cron_timetable.specs.Fields.{Fields}
use Rattle.cron_timetable.specs.Ticks.{NoneBetween}
use Rattle.cron_timetable.proofs.TickLemmas.{NoneBetween-days, NoneBetween-hours, NoneBetween-minutes, fires-all}
use Rattle.cron_timetable.proofs.expressions.Cron.jump.Goals as goal

pub returns-then-next_day-day-clause-none : goal.returns-then-next_day-day-clause-none
returns-then-next_day-day-clause-none c =
    NoneBetween-days _ _ c.jump_days-next_day.result _ _ c.jump_days-next_day.ensures.none (omega arith) (omega arith)

pub returns-then-next_hour-hour-clause-none : goal.returns-then-next_hour-hour-clause-none
returns-then-next_hour-hour-clause-none c =
    let end = c.args.secs / 86400 * 86400 + c.from-then-next_hour-hour.result * 3600 in
    subst (λ (f : Fields). NoneBetween f c.args.secs end) c.self.view_is
    (NoneBetween-hours _ (c.args.secs / 86400) (c.args.secs % 86400 / 3600) c.min-next_hour.result _ end
    (λ k from below. c.least_from.ensures.none k from (omega arith)) (omega arith) (omega arith) (omega arith))

pub returns-clause-none : goal.returns-clause-none
returns-clause-none c =
    let end = c.args.secs / 3600 * 3600 + c.from-2.result * 60 in
    subst (λ (f : Fields). NoneBetween f c.args.secs end) c.self.view_is
    (NoneBetween-minutes _ (c.args.secs / 3600) (c.args.secs % 3600 / 60) c.min-next_minute.result _ end
    (λ k from below. c.least_from-2.ensures.none k from (omega arith)) (omega arith) (omega arith) (omega arith))

pub returns-clause-stays : goal.returns-clause-stays
returns-clause-stays c here =
    let hour : c.least_from.result ≡ c.args.secs % 86400 / 3600 = omega arith in
    let minute : c.least_from-2.result ≡ c.args.secs % 3600 / 60 = omega arith in
    fires-all _ c.args.secs c.requires.whole
    (sym (ap (λ (f : Fields). has f.minutes (c.args.secs % 3600 / 60)) c.self.view_is) ∙ (sym (ap (has c.self.inside.minutes) minute) ∙ c.least_from-2.ensures.found (omega arith)))
    (sym (ap (λ (f : Fields). has f.hours (c.args.secs % 86400 / 3600)) c.self.view_is) ∙ (sym (ap (has c.self.inside.hours) hour) ∙ c.least_from.ensures.found (omega arith)))
    (c.jump_days-next_day.ensures.stays (omega arith))
