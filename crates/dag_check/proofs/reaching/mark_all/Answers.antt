use Rattle.std.proofs.Common.{◌<◌, length, get_or, arith}
use Rattle.dag_check.proofs.ReachLemmas.{marks-more}
use Rattle.dag_check.proofs.OrderLemmas.{in-at}
use Rattle.dag_check.proofs.reaching.mark_all.Goals as goal

pub loop-place-preserved : goal.loop-place-preserved
loop-place-preserved c =
    let i = c.loop-place.place-index in
    let below = c.requires (get_or c.args.places.now i 0) (in-at c.args.places.now i c.loop-place-test.true) in
    let inside : get_or c.args.places.now i 0 < length c.loop-place.marks.items = omega (arith, below, c.loop-place.invariant.len, c.loop-place.marks.ok.0) in
    record {
      len = c.loop-place.invariant.len;
      marks = marks-more c.loop-place.marks.items c.args.marks.now.items c.args.places.now i c.loop-place-test.true inside c.loop-place.invariant.marks;
    }

pub index_mut-requires : goal.index_mut-requires
index_mut-requires c =
    let i = c.loop-place.place-index in
    omega (arith, c.requires (get_or c.args.places.now i 0) (in-at c.args.places.now i c.loop-place-test.true), c.loop-place.invariant.len)
