use Rattle.sched_laws.proofs.LookLemmas.{unlooked}
use Rattle.sched_laws.proofs.DecisionLemmas.{looks_later, decided_once}
use Rattle.sched_laws.proofs.SweepLemmas.{sound_ordered}
use Rattle.sched_laws.proofs.decisions.decisions_look_back.Goals as goal

pub returns : goal.returns
returns c = record { unlooked = unlooked; later = λ a m q n p s l. looks_later a m q n p (sound_ordered a s) l; once = decided_once }
