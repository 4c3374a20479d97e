use Rattle.std.proofs.lemmas.Str.{IsUtf8-string_bytes}
use Rattle.record_tables.proofs.dags.DagRowStored.read.Goals as goal

pub returns-clause-texts : goal.returns-clause-texts
returns-clause-texts c = (IsUtf8-string_bytes c.in_ok-dag_id.dag_id, (IsUtf8-string_bytes c.in_ok-body.body, (tt, tt)))
