use Rattle.sched_laws.proofs.ResizeLemmas.{size_after, there_after}
use Rattle.sched_laws.proofs.resizing.resizing_changes_one_pool.Goals as goal

pub returns : goal.returns
returns c = record { size = size_after; there = there_after }
