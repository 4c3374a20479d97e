use Rattle.record_tables.proofs.MetaLemmas.{kept}
use Rattle.record_tables.proofs.metas.MetaRowStored.kept.Goals as goal

pub returns : goal.returns
returns c = kept
