use Rattle.std.proofs.Common.{◌≡◌, ◌++◌, ℕ, replicate}
use Rattle.ruled_dispatch.specs.declared.items.JobOrStop.TheVariants as items
use Rattle.ruled_dispatch.specs.Lanes.{sent_of, heard_of, IsDirectorOf, HasWorkers}
use Rattle.sessions.proofs.sending.send_stops.Given as goal

abbrev pub invariant-loop-stopped : goal.invariant-loop-stopped
invariant-loop-stopped g l = record {
  pass : IsDirectorOf l.lanes l.pass;
  workers : (n : ℕ) → HasWorkers l.initial.pass n → HasWorkers l.pass n;
  sent : sent_of l.pass ≡ sent_of l.initial.pass ++ replicate l._stopped items.Stop;
  heard : heard_of l.pass ≡ heard_of l.initial.pass;
}
