use Rattle.record_rules.proofs.OrderLemmas.{run_order}
use Rattle.record_rules.proofs.orders.RunRowKeyed.ordered.Goals as goal

pub returns : goal.returns
returns c = run_order
