use Rattle.sched_laws.proofs.SlotLemmas.{out_filled}
use Rattle.sched_laws.proofs.occupying.hand_outs_fill_up_to_the_size.Goals as goal

pub returns : goal.returns
returns c = out_filled
