use Rattle.ruled_dispatch.specs.Lanes.{IsDirectorOf}
use Rattle.worked_workers.proofs.job_threads.send_all.Given as goal

abbrev pub invariant-loop-job : goal.invariant-loop-job
invariant-loop-job g l = IsDirectorOf l.lanes l.director

abbrev pub invariant-loop-stop : goal.invariant-loop-stop
invariant-loop-stop g l = IsDirectorOf l.lanes l.director
