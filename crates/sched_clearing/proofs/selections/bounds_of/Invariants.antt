use Rattle.std.proofs.Common.{take}
use Rattle.sched_clearing.specs.Selections.{AreBounds, Each}
use Rattle.sched_clearing.proofs.selections.bounds_of.Given as goal

abbrev pub invariant-loop-date : goal.invariant-loop-date
invariant-loop-date l = AreBounds (Each (take l.date-index l.dates)) l.bounds
