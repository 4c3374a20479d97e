use Rattle.record_restoring.proofs.PoolLemmas.{pool_added}
use Rattle.record_restoring.proofs.pool_making.read_pools.Goals as goal

pub loop-row-preserved : goal.loop-row-preserved
loop-row-preserved c =
    pool_added c.args.rows.now c.loop-row.row-index c.row-item.result c.loop-row.pools.pools c.add_pool.new.pools.pools c.requires.order c.loop-row-test.true c.row-item.is c.loop-row.invariant c.in_ok-add_pool.ensures
