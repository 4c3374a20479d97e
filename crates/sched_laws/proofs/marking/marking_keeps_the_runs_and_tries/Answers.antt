use Rattle.sched_laws.proofs.MarkLemmas.{mark_names, mark_open}
use Rattle.sched_laws.proofs.marking.marking_keeps_the_runs_and_tries.Goals as goal

pub returns-clause-runs : goal.returns-clause-runs
returns-clause-runs c = mark_names

pub returns-clause-open : goal.returns-clause-open
returns-clause-open c = mark_open
