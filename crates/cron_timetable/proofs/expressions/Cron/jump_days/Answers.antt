use Rattle.std.proofs.Common.{◌+◌, ◌-◌, ◌*◌, ◌≤◌, ◌⊎◌, inl, inr, arith}
use Rattle.std.proofs.lemmas.Bool.{cases_lt}
use Rattle.cron_timetable.proofs.JumpLemmas.{later_in_month, date_fires-no_day, date_fires-both}
use Rattle.cron_timetable.proofs.MonthLemmas.{none_ahead}
use Rattle.cron_timetable.proofs.expressions.Cron.jump_days.Goals as goal

pub returns-then-months-eq0-clause-none : goal.returns-then-months-eq0-clause-none
returns-then-months-eq0-clause-none c k from below =
    let turn = later_in_month _ _ k c.month_end.ensures.last from (omega arith) in
    date_fires-no_day _ k (c.days_ahead.ensures.none k from (omega arith) turn)

pub returns-then-months-eq0-clause-stays : goal.returns-then-months-eq0-clause-stays
returns-then-months-eq0-clause-stays c here =
    let after = c.month_end.ensures.last.after in
    date_fires-both _ _ (c.months_ahead-months.ensures.stays c.if-months-eq0.true) (c.days_ahead.ensures.stays (omega arith))

pub returns-clause-none : goal.returns-clause-none
returns-clause-none c k from below =
    let start = c.month_start.result in
    let within = c.min-2.result in
    let months = c.months_ahead-months.result in
    let near : (within ≤ c.args.epoch_day) ⊎ (within ≤ start + 31 * (months - 1)) =
    elim (cases_lt c.args.epoch_day (start + 31 * (months - 1))) [ inl later ↦ inr (omega arith) | inr same ↦ inl (omega arith) ] in
    none_ahead _ _ months start within _ (omega arith) c.months_ahead-months.ensures.few c.months_ahead-months.ensures.none c.month_start.ensures (omega arith) near
    c.month_end-2.ensures.last k from (omega arith)
