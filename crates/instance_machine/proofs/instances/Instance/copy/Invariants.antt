use Rattle.std.proofs.Common.{◌≡◌, take}
use Rattle.instance_machine.proofs.instances.Instance.copy.Given as goal

abbrev pub invariant-loop-one : goal.invariant-loop-one
invariant-loop-one l = l.tries.items ≡ take l.one-index l.one-items
