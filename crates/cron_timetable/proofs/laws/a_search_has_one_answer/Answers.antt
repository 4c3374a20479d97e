use Rattle.cron_timetable.proofs.UniqueLemmas.{same_next, same_last}
use Rattle.cron_timetable.proofs.laws.a_search_has_one_answer.Goals as goal

pub returns-clause-next : goal.returns-clause-next
returns-clause-next c = same_next

pub returns-clause-last : goal.returns-clause-last
returns-clause-last c = same_last
