use Rattle.sched_model.specs.NamedRuns.{add_runs}
use Rattle.sched_model.specs.Settle.{settle}
use Rattle.sched_laws.proofs.SoundLemmas.{settle_sound, out_sound}
use Rattle.sched_laws.proofs.AddLemmas.{add_sound}
use Rattle.sched_laws.proofs.sound.advancing_keeps_soundness.Goals as goal

pub returns : goal.returns
returns c = record { added = add_sound; settled = settle_sound; handed = out_sound; advanced = λ ns a n f s. out_sound (settle (add_runs ns a)) (settle_sound (add_runs ns a) (add_sound ns a n f s)) }
