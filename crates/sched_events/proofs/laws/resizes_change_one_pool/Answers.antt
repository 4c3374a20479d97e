use Rattle.sched_events.proofs.StepLemmas.{smaller_step, new_step, same_size}
use Rattle.sched_events.proofs.laws.resizes_change_one_pool.Goals as goal

pub returns-clause-smaller : goal.returns-clause-smaller
returns-clause-smaller c = smaller_step

pub returns-clause-made : goal.returns-clause-made
returns-clause-made c = new_step

pub returns-clause-same : goal.returns-clause-same
returns-clause-same c = same_size
