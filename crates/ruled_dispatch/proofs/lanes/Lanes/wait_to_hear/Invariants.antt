use Rattle.std.proofs.Common.{◌≡◌, ℕ}
use Rattle.ruled_dispatch.specs.Lanes.{heard_of, sent_of, IsDirectorOf, HasWorkers}
use Rattle.ruled_dispatch.proofs.lanes.Lanes.wait_to_hear.Given as goal

abbrev pub invariant-loop : goal.invariant-loop
invariant-loop g l = record {
  pass : IsDirectorOf l.self l.pass;
  heard : heard_of l.pass ≡ heard_of l.initial.pass;
  sent : sent_of l.pass ≡ sent_of l.initial.pass;
  workers : (n : ℕ) → HasWorkers l.initial.pass n → HasWorkers l.pass n;
}
