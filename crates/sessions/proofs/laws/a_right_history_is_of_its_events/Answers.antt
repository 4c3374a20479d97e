use Rattle.sessions.proofs.LawLemmas.{any_is_missed, right_accepted, right_answered, right_apart, right_begun, right_heard, right_ordered}
use Rattle.sessions.proofs.laws.a_right_history_is_of_its_events.Goals as goal

pub returns-clause-accepted : goal.returns-clause-accepted
returns-clause-accepted c = right_accepted

pub returns-clause-answered : goal.returns-clause-answered
returns-clause-answered c = right_answered

pub returns-clause-heard : goal.returns-clause-heard
returns-clause-heard c = right_heard

pub returns-clause-in_order : goal.returns-clause-in_order
returns-clause-in_order c = right_ordered

pub returns-clause-missed : goal.returns-clause-missed
returns-clause-missed c = any_is_missed

pub returns-clause-begun : goal.returns-clause-begun
returns-clause-begun c = right_begun

pub returns-clause-apart : goal.returns-clause-apart
returns-clause-apart c = right_apart
