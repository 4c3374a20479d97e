use Rattle.std.proofs.lemmas.Str.{IsUtf8-string_bytes}
use Rattle.record_tables.proofs.instances.InstanceRowStored.read.Goals as goal

pub returns-clause-texts : goal.returns-clause-texts
returns-clause-texts c = (IsUtf8-string_bytes c.in_ok-dag_id.dag_id, (tt, (IsUtf8-string_bytes c.in_ok-task_id.task_id, (tt, (tt, tt)))))
