use Rattle.record_tables.proofs.DagLemmas.{kept}
use Rattle.record_tables.proofs.dags.DagRowStored.kept.Goals as goal

pub returns : goal.returns
returns c = kept
