use Rattle.record_tables.proofs.RunLemmas.{kept}
use Rattle.record_tables.proofs.runs.RunRowStored.kept.Goals as goal

pub returns : goal.returns
returns c = kept
