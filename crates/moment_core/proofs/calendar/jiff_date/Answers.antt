use Rattle.std.proofs.Common.{◌≡◌, ◌∙◌, arith, pos}
use Rattle.std.proofs.lemmas.Int.{ints}
use Rattle.jiff_core.proofs.SignedLemmas.{signed_arith}
use Rattle.jiff_core.proofs.CalendarLemmas.{days_in_month_bounds}
use Rattle.jiff_core.specs.Date.{epoch_day}
use Rattle.moment_core.specs.Calendar.{date_of}
use Rattle.moment_core.proofs.DateLemmas.{same_day, is_day}
use Rattle.moment_core.proofs.calendar.jiff_date.Goals as goal

pub returns-clause-year : goal.returns-clause-year
returns-clause-year c =
    let day = rw c.unwrap.ensures at c.from_unix_epoch_day.ensures.value in
    let number : epoch_day c.unwrap.result ≡ pos c.args.epoch_day = day ∙ omega (arith, ints) in
    (same_day c.args.epoch_day c.unwrap.result number).0

pub returns-clause-month : goal.returns-clause-month
returns-clause-month c =
    let day = rw c.unwrap.ensures at c.from_unix_epoch_day.ensures.value in
    let number : epoch_day c.unwrap.result ≡ pos c.args.epoch_day = day ∙ omega (arith, ints) in
    (same_day c.args.epoch_day c.unwrap.result number).1

pub returns-clause-day : goal.returns-clause-day
returns-clause-day c =
    let day = rw c.unwrap.ensures at c.from_unix_epoch_day.ensures.value in
    let number : epoch_day c.unwrap.result ≡ pos c.args.epoch_day = day ∙ omega (arith, ints) in
    (same_day c.args.epoch_day c.unwrap.result number).2

pub returns-clause-late : goal.returns-clause-late
returns-clause-late c =
    let is = is_day c.args.epoch_day (omega arith) in
    (is.late, omega (arith, signed_arith, is.calendar.0.1))

pub returns-clause-months : goal.returns-clause-months
returns-clause-months c =
    let is = is_day c.args.epoch_day (omega arith) in
    (is.calendar.1.0, is.calendar.1.1)

pub returns-clause-days : goal.returns-clause-days
returns-clause-days c =
    let is = is_day c.args.epoch_day (omega arith) in
    let bounds = days_in_month_bounds (pos (date_of c.args.epoch_day).year) (date_of c.args.epoch_day).month in
    (is.calendar.2.0, omega (arith, is.calendar.2.1, bounds.0))
