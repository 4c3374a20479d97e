use Rattle.record_tables.proofs.PoolLemmas.{kept}
use Rattle.record_tables.proofs.pools.PoolRowStored.kept.Goals as goal

pub returns : goal.returns
returns c = kept
