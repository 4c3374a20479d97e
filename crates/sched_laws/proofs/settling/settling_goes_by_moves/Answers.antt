use Rattle.sched_laws.proofs.SettleLemmas.{settle_still, settle_moved}
use Rattle.sched_laws.proofs.settling.settling_goes_by_moves.Goals as goal

pub returns : goal.returns
returns c = record { still = settle_still; moved = settle_moved }
