use Rattle.std.proofs.Common.{append_assoc}
use Rattle.answer_lines.proofs.runs.put_run.Goals as goal

pub returns : goal.returns
returns g c = rw (← c.as_str-graph.ensures.text, ← c.name-kind.ensures, ← c.phase_name-phase.ensures) (simp append_assoc (let h = simp append_assoc at c.writeln.ensures.bytes in h))
