use Rattle.sched_laws.proofs.KeyLemmas.{serials_differ, serials_below}
use Rattle.sched_laws.proofs.sound.serials_are_used_once.Goals as goal

pub returns : goal.returns
returns c = record { once = serials_differ; below = serials_below }
