use Rattle.record_rules.proofs.OrderLemmas.{attempt_order}
use Rattle.record_rules.proofs.orders.AttemptRowKeyed.ordered.Goals as goal

pub returns : goal.returns
returns c = attempt_order
