use Rattle.sched_laws.proofs.MarkLemmas.{mark_sound}
use Rattle.sched_laws.proofs.marking.marking_keeps_soundness.Goals as goal

pub returns : goal.returns
returns c = mark_sound
