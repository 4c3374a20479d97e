use Rattle.std.proofs.Common.{◌≡◌}
use Rattle.workers.proofs.threads.join_all.Given as goal

abbrev pub invariant-loop : goal.invariant-loop
invariant-loop g l = l.handles ≡ l.fn.handles
