use Rattle.sched_laws.proofs.DecisionLemmas.{first_decision, no_decision}
use Rattle.sched_laws.proofs.SweepLemmas.{sweep_all, sound_ordered}
use Rattle.sched_laws.proofs.decisions.decisions_are_one_sweep.Goals as goal

pub returns : goal.returns
returns c = record { first = first_decision; none = no_decision; sweep = λ a s. sweep_all a (sound_ordered a s) }
