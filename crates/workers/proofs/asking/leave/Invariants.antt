use Rattle.std.proofs.Common.{◌≡◌}
use Rattle.workers.proofs.asking.leave.Given as goal

abbrev pub invariant-loop : goal.invariant-loop
invariant-loop g l = l.share ≡ l.initial.share
