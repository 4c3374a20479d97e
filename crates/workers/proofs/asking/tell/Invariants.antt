use Rattle.std.proofs.Common.{◌≡◌}
use Rattle.ruled_dispatch.specs.Lanes.{taken_of, told_of, IsWorkerOf}
use Rattle.workers.proofs.asking.tell.Given as goal

abbrev pub invariant-loop : goal.invariant-loop
invariant-loop g l = record {
  pass : IsWorkerOf l.lanes l.pass;
  number : l.pass.number ≡ l.initial.pass.number;
  taken : taken_of l.pass ≡ taken_of l.initial.pass;
  told : told_of l.pass ≡ told_of l.initial.pass;
}
