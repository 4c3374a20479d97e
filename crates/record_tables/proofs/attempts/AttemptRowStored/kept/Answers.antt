use Rattle.record_tables.proofs.AttemptLemmas.{kept}
use Rattle.record_tables.proofs.attempts.AttemptRowStored.kept.Goals as goal

pub returns : goal.returns
returns c = kept
