use Rattle.sched_events.proofs.PromiseLemmas.{steps_names}
use Rattle.sched_events.proofs.StepLemmas.{steps_dates}
use Rattle.sched_events.proofs.laws.lists_of_steps_add_their_runs.Goals as goal

pub returns : goal.returns
returns c = record { runs = steps_names; dates = steps_dates }
