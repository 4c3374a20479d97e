use Rattle.sched_laws.proofs.PauseLemmas.{pause_still, pause_no_hand}
use Rattle.sched_laws.proofs.pausing.pausing_is_quiet.Goals as goal

pub returns : goal.returns
returns c = record { still = pause_still; no_hand = pause_no_hand }
