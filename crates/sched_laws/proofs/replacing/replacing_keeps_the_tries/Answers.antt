use Rattle.sched_laws.proofs.RefitLemmas.{replace_tries, try_stays}
use Rattle.sched_laws.proofs.ReplaceLemmas.{said_taken}
use Rattle.sched_laws.proofs.replacing.replacing_keeps_the_tries.Goals as goal

pub returns : goal.returns
returns c = record { all = replace_tries; each = λ text dag a id date task n t new lost s said says. try_stays text dag a (said_taken text dag a said says) id date task n t new lost s }
