use Rattle.record_tables.proofs.VersionLemmas.{by_key}
use Rattle.record_tables.proofs.laws.stored_rows_are_by_key.Goals as goal

pub returns : goal.returns
returns c = by_key
