use Rattle.sched_laws.proofs.ResizeLemmas.{new_no_hand}
use Rattle.sched_laws.proofs.resizing.a_new_pool_lets_nothing_out.Goals as goal

pub returns : goal.returns
returns c = new_no_hand
