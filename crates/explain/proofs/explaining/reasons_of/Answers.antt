use Rattle.explain.specs.Reasons.{reasons}
use Rattle.explain.proofs.SilenceLemmas.{added, joined}
use Rattle.explain.proofs.explaining.reasons_of.Goals as goal

pub returns : goal.returns
unfolding reasons
returns c =
    added c.in_ok-add-10.ensures c.lanes_full.ensures
    (added c.in_ok-add-9.ensures c.graph_full.ensures
    (added c.in_ok-add-8.ensures c.in_ok-pool_full.ensures
    (added c.in_ok-add-7.ensures c.retry_later.ensures
    (added c.in_ok-add-6.ensures c.past.ensures
    (joined _ c.in_ok-add_upstreams.ensures
    (added c.in_ok-add-5.ensures c.run_finished.ensures
    (added c.in_ok-add-4.ensures c.paused.ensures
    (added c.in_ok-add-3.ensures c.run_queued.ensures
    (added c.in_ok-add-2.ensures c.handed_out.ensures
    (added c.in_ok-add.ensures c.finished.ensures c.new-reasons.ensures.items))))))))))
