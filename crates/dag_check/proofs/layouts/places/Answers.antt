use Rattle.std.proofs.Common.{arith}
use Rattle.dag_check.proofs.PlainLemmas.{places-step}
use Rattle.dag_check.proofs.layouts.places.Goals as goal

pub loop-place-preserved : goal.loop-place-preserved
loop-place-preserved c =
    let k = c.loop-place-test.true in
    record {
      long = c.loop-place.invariant.long;
      places = places-step c.args.order.now c.loop-place.places.items c.loop-place.place k (omega (arith, c.requires.within c.loop-place.place k, c.loop-place.invariant.long, c.loop-place.places.ok.0)) (c.requires.once c.loop-place.place k) c.loop-place.invariant.places;
    }
