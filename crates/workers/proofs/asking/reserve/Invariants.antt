use Rattle.std.proofs.Common.{◌≡◌}
use Rattle.workers.proofs.asking.reserve.Given as goal

abbrev pub invariant-loop : goal.invariant-loop
invariant-loop g l = (l.log.items ≡ l.initial.log.items) × (l.log.keep ≡ l.initial.log.keep)
