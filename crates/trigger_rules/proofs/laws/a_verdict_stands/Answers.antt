use Rattle.trigger_rules.proofs.ProgressLemmas.{stands}
use Rattle.trigger_rules.proofs.laws.a_verdict_stands.Goals as goal

pub returns : goal.returns
returns c = stands
