use Rattle.record_rules.proofs.OrderLemmas.{dag_limit_order}
use Rattle.record_rules.proofs.orders.DagLimitRowKeyed.ordered.Goals as goal

pub returns : goal.returns
returns c = dag_limit_order
