use Rattle.sched_laws.proofs.ResizeLemmas.{resize_still}
use Rattle.sched_laws.proofs.resizing.resizing_enables_no_move.Goals as goal

pub returns : goal.returns
returns c = resize_still
