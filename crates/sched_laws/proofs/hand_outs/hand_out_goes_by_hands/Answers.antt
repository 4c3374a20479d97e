use Rattle.sched_laws.proofs.HandOutLemmas.{hand_ends, hand_still, hand_moved}
use Rattle.sched_laws.proofs.hand_outs.hand_out_goes_by_hands.Goals as goal

pub returns : goal.returns
returns c = record { ends = hand_ends; still = hand_still; moved = hand_moved }
