use Rattle.sched_laws.proofs.SetBackLemmas.{set_there, left_alone}
use Rattle.sched_laws.proofs.clearing.what_is_named_is_set.Goals as goal

pub returns-clause-named : goal.returns-clause-named
returns-clause-named c = set_there

pub returns-clause-others : goal.returns-clause-others
returns-clause-others c = left_alone
