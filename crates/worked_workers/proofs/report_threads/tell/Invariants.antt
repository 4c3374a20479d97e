use Rattle.std.proofs.Common.{◌≡◌}
use Rattle.ruled_dispatch.specs.Lanes.{told_of, IsWorkerOf}
use Rattle.worked_workers.proofs.report_threads.tell.Given as goal

abbrev pub invariant-loop : goal.invariant-loop
invariant-loop g l = record {
  pass : IsWorkerOf l.lanes l.pass;
  number : l.pass.number ≡ l.initial.pass.number;
  told : told_of l.pass ≡ told_of l.initial.pass;
}
