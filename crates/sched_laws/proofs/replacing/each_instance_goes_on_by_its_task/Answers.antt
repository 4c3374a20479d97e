use Rattle.sched_laws.proofs.FinishedLemmas.{replaced_stays}
use Rattle.sched_laws.proofs.RefitLemmas.{instance_stays}
use Rattle.sched_laws.proofs.ReplaceLemmas.{said_taken}
use Rattle.sched_laws.proofs.replacing.each_instance_goes_on_by_its_task.Goals as goal

pub returns : goal.returns
returns c = record {
  each = λ text dag a id date task e new lost s said says. instance_stays text dag a (said_taken text dag a said says) id date task e new lost s;
  finished = λ text dag a id date task u new lost s said says. replaced_stays text dag a (said_taken text dag a said says) id date task u new lost s;
}
