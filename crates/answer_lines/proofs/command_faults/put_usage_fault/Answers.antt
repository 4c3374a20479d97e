use Rattle.answer_lines.proofs.command_faults.put_usage_fault.Goals as goal

pub returns-in-BadMoment : goal.returns-in-BadMoment
returns-in-BadMoment g c = rw (c.in-BadMoment.is, ← c.moment_fault_name-name.ensures) c.writeln.ensures.bytes
