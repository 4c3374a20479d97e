use Rattle.std.proofs.Common.{ap, arith}
use Rattle.moment_core.specs.declared.calendar.Date.{Date}
use Rattle.moment_core.proofs.MonthLemmas.{starts, day-le}
use Rattle.moment_core.proofs.calendar.month_start.Goals as goal

pub overflow_sub-result-2 : goal.overflow_sub-result-2
overflow_sub-result-2 c =
    let day = ap (λ (d : Date). d.day) c.date_at.ensures.date in
    omega (arith, day, day-le c.args.epoch_day, c.from.ensures)

pub returns : goal.returns
returns c =
    let day = ap (λ (d : Date). d.day) c.date_at.ensures.date in
    starts c.args.epoch_day (omega (arith, day, c.date_at.ensures.day.0)) _ (omega (arith, day, day-le c.args.epoch_day, c.from.ensures))
