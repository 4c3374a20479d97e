use Rattle.std.proofs.Common.{◌+◌, ◌-◌, ◌*◌, ◌≤◌, ◌⊎◌, inl, inr, arith}
use Rattle.std.proofs.lemmas.Bool.{cases_lt}
use Rattle.cron_timetable.proofs.JumpLemmas.{earlier_in_month, date_fires-no_day, date_fires-both}
use Rattle.cron_timetable.proofs.MonthLemmas.{none_back}
use Rattle.cron_timetable.proofs.expressions.Cron.jump_days_back.Goals as goal

pub returns-then-months-eq0-clause-none : goal.returns-then-months-eq0-clause-none
returns-then-months-eq0-clause-none c k from to =
    let turn = earlier_in_month _ _ k c.month_start-first.ensures (omega arith) to in
    date_fires-no_day _ k (c.days_back.ensures.none k to (omega arith) turn)

pub returns-then-months-eq0-clause-stays : goal.returns-then-months-eq0-clause-stays
returns-then-months-eq0-clause-stays c here =
    let before = c.month_start-first.ensures.before in
    date_fires-both _ _ (c.months_back-months.ensures.stays c.if-months-eq0.true) (c.days_back.ensures.stays (omega arith))

pub returns-clause-none : goal.returns-clause-none
returns-clause-none c k from to =
    let end = c.month_end.result in
    let within = c.min.result in
    let months = c.months_back-months.result in
    let near : (c.args.epoch_day ≤ within) ⊎ (end ≤ within + 31 * (months - 1)) =
    elim (cases_lt within c.args.epoch_day) [ inl earlier ↦ inr (omega arith) | inr same ↦ inl (omega arith) ] in
    none_back _ _ months end within _ (omega arith) c.months_back-months.ensures.few c.months_back-months.ensures.none c.month_end.ensures.last (omega arith) near
    c.month_start.ensures k from to
