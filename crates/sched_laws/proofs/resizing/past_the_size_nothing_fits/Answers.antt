use Rattle.sched_laws.proofs.ResizeLemmas.{full_after, others_after}
use Rattle.sched_laws.proofs.resizing.past_the_size_nothing_fits.Goals as goal

pub returns : goal.returns
returns c = record { full = full_after; others = others_after }
