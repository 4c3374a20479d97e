use Rattle.std.proofs.Common.{take}
use Rattle.sched_settling.specs.Touched.{EachLine, IsCountedOff, bases_at}
use Rattle.sched_settling.proofs.counting.count_all_off.Given as goal

abbrev pub invariant-loop-position : goal.invariant-loop-position
invariant-loop-position l = EachLine (λ id. IsCountedOff id (bases_at l.draft.base.runs l.draft.content.runs (take l.position-index l.touched))) l.fn.lines.items l.lines.items
