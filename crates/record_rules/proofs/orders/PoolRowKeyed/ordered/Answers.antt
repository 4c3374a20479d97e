use Rattle.record_rules.proofs.OrderLemmas.{pool_order}
use Rattle.record_rules.proofs.orders.PoolRowKeyed.ordered.Goals as goal

pub returns : goal.returns
returns c = pool_order
