use Rattle.cron_timetable.proofs.SetLemmas.{has-set_of, has-set_of_above}
use Rattle.cron_timetable.proofs.laws.a_set_holds_what_passes.Goals as goal

pub returns-clause-below : goal.returns-clause-below
returns-clause-below c = has-set_of

pub returns-clause-above : goal.returns-clause-above
returns-clause-above c = has-set_of_above
