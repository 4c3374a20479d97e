use Rattle.std.proofs.Common.{◌≡◌, take}
use Rattle.instance_machine.proofs.dirty.Dirty.copy.Given as goal

abbrev pub invariant-loop-at : goal.invariant-loop-at
invariant-loop-at g l = l.keys.items ≡ take l.at l.self-inside.keys.items
