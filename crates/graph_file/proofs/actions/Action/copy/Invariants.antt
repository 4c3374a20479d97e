use Rattle.std.proofs.Common.{◌≡◌, take}
use Rattle.graph_file.proofs.actions.Action.copy.Given as goal

abbrev pub invariant-loop-argument : goal.invariant-loop-argument
invariant-loop-argument l = l.argv.items ≡ take l.argument-index l.argument-items
