use Rattle.std.specs.Prelude.{None}
use Rattle.sched_laws.proofs.SetBackLemmas.{none_recent, set_state, allowed_anew}
use Rattle.sched_laws.proofs.clearing.what_is_set_back_starts_anew.Goals as goal

pub returns-clause-state : goal.returns-clause-state
returns-clause-state c = set_state None

pub returns-clause-anew : goal.returns-clause-anew
returns-clause-anew c = none_recent None

pub returns-clause-allowed : goal.returns-clause-allowed
returns-clause-allowed c = allowed_anew None
