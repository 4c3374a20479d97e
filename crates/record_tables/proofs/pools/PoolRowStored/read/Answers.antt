use Rattle.std.proofs.lemmas.Str.{IsUtf8-string_bytes}
use Rattle.record_tables.proofs.pools.PoolRowStored.read.Goals as goal

pub returns-clause-texts : goal.returns-clause-texts
returns-clause-texts c = (IsUtf8-string_bytes c.in_ok-name.name, (tt, tt))
