use Rattle.dag_check.proofs.OrderLemmas.{in-at}
use Rattle.priority_weights.proofs.weights.total.Goals as goal

pub own-weight-requires : goal.own-weight-requires
own-weight-requires c = c.requires.places_in _ (in-at c.args.places.now c.loop-other.other-index c.loop-other-test.true)
