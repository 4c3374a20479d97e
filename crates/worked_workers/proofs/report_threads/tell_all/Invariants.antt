use Rattle.worked_workers.specs.ReportRounds.{HasTold}
use Rattle.worked_workers.proofs.report_threads.tell_all.Given as goal

abbrev pub invariant-loop-before : goal.invariant-loop-before
invariant-loop-before g l = HasTold l.lanes l.before l.fn.pass l.after
