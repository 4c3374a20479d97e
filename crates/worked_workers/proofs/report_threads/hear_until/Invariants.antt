use Rattle.std.proofs.Common.{◌≡◌, ◌++◌, ℕ, vec_items}
use Rattle.ruled_dispatch.specs.Lanes.{heard_of, HasWorkers, IsDirectorOf}
use Rattle.worked_workers.proofs.report_threads.hear_until.Given as goal

abbrev pub invariant-loop : goal.invariant-loop
invariant-loop g l = record {
  pass : IsDirectorOf l.lanes l.pass;
  workers : (n : ℕ) → HasWorkers l.initial.pass n → HasWorkers l.pass n;
  heard : heard_of l.pass ≡ heard_of l.initial.pass ++ vec_items l.heard;
}
