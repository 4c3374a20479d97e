use Rattle.record_tables.proofs.DagLimitLemmas.{kept}
use Rattle.record_tables.proofs.dag_limits.DagLimitRowStored.kept.Goals as goal

pub returns : goal.returns
returns c = kept
