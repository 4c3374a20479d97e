use Rattle.sched_laws.proofs.RuleLemmas.{rules_of, sound_by_rules}
use Rattle.sched_laws.proofs.rules.the_rules_say_soundness.Goals as goal

pub returns : goal.returns
returns c = record { rules = rules_of; sound = sound_by_rules }
