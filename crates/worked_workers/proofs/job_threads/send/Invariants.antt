use Rattle.ruled_dispatch.specs.Lanes.{IsDirectorOf}
use Rattle.worked_workers.proofs.job_threads.send.Given as goal

abbrev pub invariant-loop : goal.invariant-loop
invariant-loop g l = IsDirectorOf l.lanes l.director
