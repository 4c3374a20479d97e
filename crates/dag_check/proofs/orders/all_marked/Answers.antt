use Rattle.dag_check.proofs.OrderLemmas.{in-at}
use Rattle.dag_check.proofs.orders.all_marked.Goals as goal

pub bounds-marks-place : goal.bounds-marks-place
bounds-marks-place c = c.requires _ (in-at c.args.places.now c.loop-place.place-index c.loop-place-test.true)
