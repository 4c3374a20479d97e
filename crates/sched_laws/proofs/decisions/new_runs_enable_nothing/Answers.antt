use Rattle.sched_laws.proofs.NewRunLemmas.{runs_with}
use Rattle.sched_laws.proofs.decisions.new_runs_enable_nothing.Goals as goal

pub returns : goal.returns
returns c = runs_with
