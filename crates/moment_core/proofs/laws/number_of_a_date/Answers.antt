use Rattle.moment_core.proofs.DateLemmas.{is_day}
use Rattle.moment_core.proofs.laws.number_of_a_date.Goals as goal

pub returns-clause-date : goal.returns-clause-date
returns-clause-date c = λ n h. (is_day n h).calendar

pub returns-clause-number : goal.returns-clause-number
returns-clause-number c = λ n h. (is_day n h).number
