use Rattle.std.proofs.Common.{◌≡◌, ℕ}
use Rattle.ruled_dispatch.specs.Lanes.{sent_of, heard_of, IsDirectorOf, HasWorkers}
use Rattle.ruled_dispatch.proofs.lanes.Lanes.wait_to_send.Given as goal

abbrev pub invariant-loop : goal.invariant-loop
invariant-loop g l = record {
  pass : IsDirectorOf l.self l.pass;
  workers : (n : ℕ) → HasWorkers l.initial.pass n → HasWorkers l.pass n;
  sent : sent_of l.pass ≡ sent_of l.initial.pass;
  heard : heard_of l.pass ≡ heard_of l.initial.pass;
  item : l.item ≡ l.fn.item;
}
