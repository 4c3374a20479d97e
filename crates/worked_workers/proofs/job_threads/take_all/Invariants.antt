use Rattle.ruled_dispatch.specs.Lanes.{IsWorkerOf}
use Rattle.worked_workers.proofs.job_threads.take_all.Given as goal

abbrev pub invariant-loop : goal.invariant-loop
invariant-loop g l = IsWorkerOf l.lanes l.pass
