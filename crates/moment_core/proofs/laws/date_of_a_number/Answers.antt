use Rattle.moment_core.proofs.DateLemmas.{same_day}
use Rattle.moment_core.proofs.laws.date_of_a_number.Goals as goal

pub returns : goal.returns
returns c = λ year month day n is number.
    same_day n (record { year = year; month = month; day = day; year_in = is.0; month_in = is.1; day_in = is.2 }) number
