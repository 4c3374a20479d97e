use Rattle.record_rules.proofs.OrderLemmas.{dag_order}
use Rattle.record_rules.proofs.orders.DagRowKeyed.ordered.Goals as goal

pub returns : goal.returns
returns c = dag_order
