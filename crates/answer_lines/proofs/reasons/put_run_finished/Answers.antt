use Rattle.answer_lines.proofs.reasons.put_run_finished.Goals as goal

pub returns : goal.returns
returns g c = rw (← c.phase_name-name.ensures) c.writeln.ensures.bytes
