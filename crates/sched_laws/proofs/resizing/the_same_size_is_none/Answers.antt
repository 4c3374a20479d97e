use Rattle.sched_laws.proofs.ResizeLemmas.{resize_again}
use Rattle.sched_laws.proofs.resizing.the_same_size_is_none.Goals as goal

pub returns : goal.returns
returns c = λ name size a s there is. resize_again name size a s.pools_by_name there is
