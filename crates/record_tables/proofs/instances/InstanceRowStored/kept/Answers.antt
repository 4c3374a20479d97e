use Rattle.record_tables.proofs.InstanceLemmas.{kept}
use Rattle.record_tables.proofs.instances.InstanceRowStored.kept.Goals as goal

pub returns : goal.returns
returns c = kept
