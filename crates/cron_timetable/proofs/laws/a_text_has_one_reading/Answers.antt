use Rattle.cron_timetable.proofs.UniqueLemmas.{same_reading, same_fault, never_both}
use Rattle.cron_timetable.proofs.laws.a_text_has_one_reading.Goals as goal

pub returns-clause-read : goal.returns-clause-read
returns-clause-read c = same_reading

pub returns-clause-refused : goal.returns-clause-refused
returns-clause-refused c = same_fault

pub returns-clause-never_both : goal.returns-clause-never_both
returns-clause-never_both c = never_both
