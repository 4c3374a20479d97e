use Rattle.instance_machine.proofs.StateLemmas.{again, never}
use Rattle.instance_machine.proofs.laws.failures_are_tried_again.Goals as goal

pub returns-clause-again : goal.returns-clause-again
returns-clause-again c = again

pub returns-clause-never : goal.returns-clause-never
returns-clause-never c = never
