use Rattle.explain.proofs.WaitLemmas.{has_reason}
use Rattle.explain.proofs.laws.who_waits_has_a_reason.Goals as goal

pub returns : goal.returns
returns c = has_reason
