use Rattle.std.proofs.Common.{arith}
use Rattle.sched_ready.proofs.MakingLemmas.{kinds_more}
use Rattle.sched_ready.proofs.making.kinds_of.Goals as goal

pub loop-place-preserved : goal.loop-place-preserved
loop-place-preserved c =
    kinds_more c.args.dag.now c.loop-place.place c.loop-place.kinds.items c.push.new.self.items c.loop-place.samples.items c.kind_of.new.samples.items c.in_ok-kind.kind
    (omega (arith, c.loop-place-test.true, c.len-place-end.ensures.len)) c.in_ok-kind.ensures c.in_ok-push.ensures.items c.loop-place.invariant
