use Rattle.sched_laws.proofs.SetBackLemmas.{queued_again, untouched_run}
use Rattle.sched_laws.proofs.clearing.finished_runs_are_queued.Goals as goal

pub returns-clause-queued : goal.returns-clause-queued
returns-clause-queued c = queued_again

pub returns-clause-untouched : goal.returns-clause-untouched
returns-clause-untouched c = untouched_run
