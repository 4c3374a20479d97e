use Rattle.cron_timetable.proofs.UniqueLemmas.{same_interval_from, same_manual_interval}
use Rattle.cron_timetable.proofs.laws.a_timetable_has_one_interval.Goals as goal

pub returns-clause-from : goal.returns-clause-from
returns-clause-from c = same_interval_from

pub returns-clause-manual : goal.returns-clause-manual
returns-clause-manual c = same_manual_interval
