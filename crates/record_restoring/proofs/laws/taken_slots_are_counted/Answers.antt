use Rattle.record_restoring.proofs.CountLemmas.{few_taken, counted_by_limits}
use Rattle.record_restoring.proofs.laws.taken_slots_are_counted.Goals as goal

pub returns : goal.returns
returns c = record { few = few_taken; counted = counted_by_limits }
