use Rattle.sched_laws.proofs.SettleLemmas.{settle_ends, settle_reached, settle_unique, settle_enough}
use Rattle.sched_laws.proofs.settling.settling_is_determined.Goals as goal

pub returns : goal.returns
returns c = record { ends = settle_ends; reached = settle_reached; unique = settle_unique; enough = settle_enough }
