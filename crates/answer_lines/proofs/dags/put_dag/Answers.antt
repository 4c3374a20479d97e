use Rattle.std.proofs.Common.{append_assoc}
use Rattle.answer_lines.proofs.dags.put_dag.Goals as goal

pub returns : goal.returns
returns g c =
    rw (← c.spec-spec.ensures.spec, ← c.active_runs-running.ensures, ← c.as_str-id.ensures.text, ← c.pause_word-paused.ensures, ← c.get-most.ensures.value)
    (simp append_assoc c.writeln.ensures.bytes)
