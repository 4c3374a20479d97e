use Rattle.record_rules.proofs.OrderLemmas.{meta_order}
use Rattle.record_rules.proofs.orders.MetaRowKeyed.ordered.Goals as goal

pub returns : goal.returns
returns c = meta_order
