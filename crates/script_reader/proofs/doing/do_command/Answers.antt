use Rattle.std.proofs.Common.{rules, [], Ok, Err, refl}
use Rattle.script_commands.specs.declared.commands.ScriptCommand.TheVariants.{Explain, List as ListRows}
use Rattle.answer_lines.specs.CommandFaults.{command_fault_text}
use Rattle.script_reader.specs.Statuses.{command_status}
use Rattle.script_reader.proofs.ShownLemmas.{done_so}
use Rattle.script_reader.proofs.doing.do_command.Goals as goal

pub returns-in-Ok-List-clause-does : goal.returns-in-Ok-List-clause-does
returns-in-Ok-List-clause-does g c = (
  [],
  search rules,
  rw c.in-Ok-List.is (rw c.in-Ok-List.field-0-is (done_so g.W.Write.contents c.args.schedule.now.content (Ok (ListRows c.in-Ok-List.listing)) [] c.list.result c.done.result _ _ c.done.ensures c.list.ensures)),
)

pub returns-in-Ok-Explain-clause-does : goal.returns-in-Ok-Explain-clause-does
returns-in-Ok-Explain-clause-does g c = (
  [],
  search rules,
  rw c.in-Ok-Explain.is (rw c.in-Ok-Explain.field-0-is (done_so g.W.Write.contents c.args.schedule.now.content (Ok (Explain c.in-Ok-Explain.question)) [] c.explain.result c.done-in-Ok-Explain.result _ _ c.done-in-Ok-Explain.ensures c.explain.ensures)),
)

pub returns-in-Err-clause-does : goal.returns-in-Err-clause-does
returns-in-Err-clause-does g c = (
  [],
  search rules,
  rw c.in-Err.is (done_so g.W.Write.contents c.args.schedule.now.content (Err c.in-Err.fault) [] c.refuse.result c.done-in-Err.result _ _ c.done-in-Err.ensures
      (command_status c.in-Err.fault, command_fault_text c.in-Err.fault, (refl, refl, refl), c.refuse.ensures)),
)
