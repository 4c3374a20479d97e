use Rattle.sched_laws.proofs.KeyLemmas.{date_once}
use Rattle.sched_laws.proofs.sound.a_date_has_one_run.Goals as goal

pub returns : goal.returns
returns c = date_once
