use Rattle.std.proofs.Common.{◌∙◌, sym}
use Rattle.graph_file.proofs.TableLemmas.{length-texts, is_command-texts, are_statuses-texts}
use Rattle.graph_file.proofs.arguments.takes.Goals as goal

pub returns-in-Command : goal.returns-in-Command
returns-in-Command c = rw c.in-Command.is (c.is_command.ensures ∙ sym (is_command-texts c.args.argv.now))

pub returns-in-Exit : goal.returns-in-Exit
returns-in-Exit c = rw c.in-Exit.is (c.are_statuses.ensures ∙ sym (are_statuses-texts c.args.argv.now))

pub returns-in-Noop : goal.returns-in-Noop
returns-in-Noop c = rw (c.in-Noop.is, length-texts c.args.argv.now) c.is_empty.ensures
