use Rattle.std.proofs.Common.{ℕ, subst}
use Rattle.answer_lines.specs.CommandFaults.{command_fault_text}
use Rattle.script_reader.specs.Answers.{IsPut}
use Rattle.script_reader.proofs.answers.Answers.refuse.Goals as goal

pub returns : goal.returns
returns g c = subst (λ (n : ℕ). IsPut g.W.Write.contents (command_fault_text c.args.fault) n c.put.result c.args.self.now c.put.new.self) c.command_status-status.ensures c.put.ensures
