use Rattle.sched_laws.proofs.MarkLemmas.{passed_state, marked_is, after_is, others_are}
use Rattle.sched_laws.proofs.marking.what_is_marked_is_skipped.Goals as goal

pub returns-clause-skipped : goal.returns-clause-skipped
returns-clause-skipped c = passed_state

pub returns-clause-marked : goal.returns-clause-marked
returns-clause-marked c = marked_is

pub returns-clause-after : goal.returns-clause-after
returns-clause-after c = after_is

pub returns-clause-others : goal.returns-clause-others
returns-clause-others c = others_are
