use Rattle.std.proofs.Common.{◌≡◌, ◌++◌, ℕ, map}
use Rattle.std.specs.Vec.Iter.{into_iter_items}
use Rattle.ruled_dispatch.specs.Lanes.{sent_of, heard_of, IsDirectorOf, HasWorkers}
use Rattle.ruled_dispatch.specs.declared.items.JobOrStop.TheVariants as item
use Rattle.sessions.proofs.sending.send_jobs.Given as goal

abbrev pub invariant-loop-job : goal.invariant-loop-job
invariant-loop-job g l = record {
  pass : IsDirectorOf l.lanes l.pass;
  workers : (count : ℕ) → HasWorkers l.initial.pass count → HasWorkers l.pass count;
  heard : heard_of l.pass ≡ heard_of l.initial.pass;
  sent : sent_of l.pass ++ map (λ j. item.Job j) (into_iter_items l.job-iterator) ≡ sent_of l.initial.pass ++ map (λ j. item.Job j) l.fn.answer.jobs;
}
