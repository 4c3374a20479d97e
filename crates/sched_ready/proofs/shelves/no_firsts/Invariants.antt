use Rattle.std.proofs.Common.{◌≡◌, length}
use Rattle.sched_ready.proofs.shelves.no_firsts.Given as goal

abbrev pub invariant-loop-kind : goal.invariant-loop-kind
invariant-loop-kind l = length l.firsts.items ≡ l._kind
