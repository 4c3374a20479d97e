use Rattle.sched_events.proofs.PromiseLemmas.{step_names}
use Rattle.sched_events.proofs.StepLemmas.{step_dates}
use Rattle.sched_events.proofs.laws.steps_add_the_named_runs.Goals as goal

pub returns : goal.returns
returns c = record { runs = step_names; dates = step_dates }
