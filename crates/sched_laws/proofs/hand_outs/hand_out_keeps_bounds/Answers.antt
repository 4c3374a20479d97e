use Rattle.sched_laws.proofs.HandLemmas.{hands_out}
use Rattle.sched_laws.proofs.hand_outs.hand_out_keeps_bounds.Goals as goal

pub returns : goal.returns
returns c = hands_out
