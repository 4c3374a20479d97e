use Rattle.sched_laws.proofs.RefitLemmas.{occupied_stays, active_stays, in_flight_stays}
use Rattle.sched_laws.proofs.ReplaceLemmas.{said_taken}
use Rattle.sched_laws.proofs.replacing.replacing_keeps_what_is_taken.Goals as goal

pub returns : goal.returns
returns c = record {
  occupied = λ text dag a p new lost least s said says. occupied_stays text dag a p (said_taken text dag a said says) new lost least s;
  active = λ text dag a id new lost s said says. active_stays text dag a id (said_taken text dag a said says) new lost s;
  in_flight = λ text dag a new lost s said says. in_flight_stays text dag a (said_taken text dag a said says) new lost s;
}
