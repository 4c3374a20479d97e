use Rattle.std.proofs.Common.{refl}
use Rattle.sessions.proofs.LawLemmas.{polled_counts, report_thrice}
use Rattle.sessions.proofs.laws.counts_say_how_often.Goals as goal

pub returns-clause-polled : goal.returns-clause-polled
returns-clause-polled c = polled_counts

pub returns-clause-once : goal.returns-clause-once
returns-clause-once c e came = refl

pub returns-clause-thrice : goal.returns-clause-thrice
returns-clause-thrice c = report_thrice
