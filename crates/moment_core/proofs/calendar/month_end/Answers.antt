use Rattle.std.proofs.Common.{◌≡◌, ℕ, ◌∙◌, ap, arith, ℤ, pos, w16, to_z, of_z}
use Rattle.jiff_core.specs.Calendar.{days_in_month}
use Rattle.jiff_core.proofs.SignedLemmas.{signed_arith, back_small}
use Rattle.moment_core.specs.Calendar.{date_of}
use Rattle.moment_core.proofs.DateLemmas.{is_day}
use Rattle.moment_core.proofs.MonthLemmas.{ends}
use Rattle.moment_core.proofs.calendar.month_end.Goals as goal

pub returns-clause-last : goal.returns-clause-last
returns-clause-last c =
    let n : ℕ = c.args.epoch_day in
    let is = is_day n (omega arith) in
    let date = c.jiff_date-date.ensures in
    let year : to_z w16 (of_z w16 c.jiff_date-date.result.year) ≡ pos (date_of n).year =
    back_small w16 c.jiff_date-date.result.year (omega (arith, signed_arith, date.year, date.late.1)) ∙ date.year in
    let length : c.days_in_month.result ≡ days_in_month (pos (date_of n).year) (date_of n).month =
    c.days_in_month.ensures.value
    ∙ ap (λ (y : ℤ). days_in_month y c.jiff_date-date.result.month) year
    ∙ ap (days_in_month (pos (date_of n).year)) date.month in
    ends n is.calendar.2.1 _ (omega (arith, length, date.day, c.from.ensures))
