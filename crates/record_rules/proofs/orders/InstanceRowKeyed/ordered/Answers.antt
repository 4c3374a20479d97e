use Rattle.record_rules.proofs.OrderLemmas.{instance_order}
use Rattle.record_rules.proofs.orders.InstanceRowKeyed.ordered.Goals as goal

pub returns : goal.returns
returns c = instance_order
