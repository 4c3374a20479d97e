use Rattle.std.proofs.Common.{◌≡◌}
use Rattle.workers.specs.Logs.{hold_of}
use Rattle.workers.proofs.asking.enter.Given as goal

abbrev pub invariant-loop : goal.invariant-loop
invariant-loop g l = record {
  share : l.share ≡ l.initial.share;
  hold : l.hold ≡ hold_of l.job;
}
