use Rattle.operators.proofs.LogLemmas.{same_try}
use Rattle.operators.proofs.laws.each_try_has_a_log_of_its_own.Goals as goal

pub returns : goal.returns
returns c = same_try
