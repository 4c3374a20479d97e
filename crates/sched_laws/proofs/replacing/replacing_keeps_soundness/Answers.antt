use Rattle.sched_laws.proofs.ReplaceLemmas.{said_taken}
use Rattle.sched_laws.proofs.ReplaceSoundLemmas.{replace_sound}
use Rattle.sched_laws.proofs.replacing.replacing_keeps_soundness.Goals as goal

pub returns : goal.returns
returns c = λ text dag a new bounded known lost none s said says. replace_sound text dag a (said_taken text dag a said says) new bounded known lost none s
