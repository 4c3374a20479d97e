use Rattle.std.proofs.Common.{◌≡◌, ◌++◌, map, take}
use Rattle.std.specs.Process.{command_program, command_args, SameEnv, SameDir}
use Rattle.operators.specs.Commands.{with_folder}
use Rattle.operators.proofs.commands.push_arguments.Given as goal

abbrev pub invariant-loop-argument : goal.invariant-loop-argument
invariant-loop-argument l = record {
  arguments : command_args l.command ≡ command_args l.initial.command ++ map (with_folder l.folder) (take l.argument-index l.arguments);
  program : command_program l.command ≡ command_program l.initial.command;
  environment : SameEnv l.initial.command l.command;
  folder : SameDir l.initial.command l.command;
}
