use Rattle.sched_laws.proofs.ResizeLemmas.{smaller_fits, smaller_no_hand}
use Rattle.sched_laws.proofs.resizing.a_smaller_pool_lets_nothing_out.Goals as goal

pub returns : goal.returns
returns c = record { fits = smaller_fits; no_hand = smaller_no_hand }
