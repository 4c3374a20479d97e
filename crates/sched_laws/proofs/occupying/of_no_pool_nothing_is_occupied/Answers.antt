use Rattle.sched_laws.proofs.SlotLemmas.{none_occupied}
use Rattle.sched_laws.proofs.occupying.of_no_pool_nothing_is_occupied.Goals as goal

pub returns : goal.returns
returns c = none_occupied
