use Rattle.record_tables.proofs.OursLemmas.{ours, limits, first_ours, no_limits}
use Rattle.record_tables.proofs.laws.the_record_is_ours.Goals as goal

pub returns-clause-second : goal.returns-clause-second
returns-clause-second c = λ o. (ours o, limits o)

pub returns-clause-first : goal.returns-clause-first
returns-clause-first c = (first_ours, no_limits)
