use Rattle.std.proofs.Common.{append_assoc}
use Rattle.answer_lines.proofs.tasks.put_task.Goals as goal

pub returns : goal.returns
returns g c = rw (← c.row.view_is, ← c.as_str-graph.ensures.text, ← c.name-kind.ensures, ← c.as_str-task.ensures.text, ← c.name-state.ensures) (simp append_assoc (let h = simp append_assoc at c.writeln.ensures.bytes in h))
