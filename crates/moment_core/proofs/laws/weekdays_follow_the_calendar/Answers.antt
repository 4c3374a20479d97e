use Rattle.std.proofs.Common.{arith, pos}
use Rattle.jiff_core.proofs.SignedLemmas.{signed_arith}
use Rattle.jiff_core.proofs.CalendarLemmas.{weekday_number-parts}
use Rattle.moment_core.proofs.laws.weekdays_follow_the_calendar.Goals as goal

pub returns : goal.returns
returns c = λ n. omega (arith, signed_arith, weekday_number-parts (pos n))
