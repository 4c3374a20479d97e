use Rattle.std.proofs.Common.{◌∙◌, ap, length, List, arith}
use Rattle.sched_ready.specs.declared.queues.Queue.{Queue}
use Rattle.sched_ready.proofs.LeadLemmas.{one_longer}
use Rattle.sched_ready.proofs.MakingLemmas.{empty_more}
use Rattle.sched_ready.proofs.shelves.empty_queues.Goals as goal

pub loop-place-preserved : goal.loop-place-preserved
loop-place-preserved c =
    let more = ap (λ (qs : List Queue). length qs) c.in_ok-push.ensures.items ∙ one_longer c.loop-place.queues.items c.new.result in
    record {
      long = omega (arith, more, c.loop-place.invariant.long);
      empty = empty_more c.loop-place.queues.items c.push.new.self.items c.new.result c.new.ensures c.in_ok-push.ensures.items c.loop-place.invariant.empty;
    }
