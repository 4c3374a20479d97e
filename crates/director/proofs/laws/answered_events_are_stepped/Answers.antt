use Rattle.director.proofs.ListLemmas.{answers_step, answers_accept}
use Rattle.director.proofs.laws.answered_events_are_stepped.Goals as goal

pub returns-clause-steps : goal.returns-clause-steps
returns-clause-steps c = answers_step

pub returns-clause-accepted : goal.returns-clause-accepted
returns-clause-accepted c = answers_accept
