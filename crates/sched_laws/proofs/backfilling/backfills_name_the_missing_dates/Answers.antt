use Rattle.sched_laws.proofs.BackfillLemmas.{named_missing, present_dates, filled}
use Rattle.sched_laws.proofs.backfilling.backfills_name_the_missing_dates.Goals as goal

pub returns-clause-named : goal.returns-clause-named
returns-clause-named c = named_missing

pub returns-clause-present : goal.returns-clause-present
returns-clause-present c = present_dates

pub returns-clause-after : goal.returns-clause-after
returns-clause-after c = filled
