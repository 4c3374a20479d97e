use Rattle.sched_laws.proofs.LookLemmas.{upstreams_exchanged}
use Rattle.sched_laws.proofs.decisions.upstreams_are_exchanged.Goals as goal

pub returns : goal.returns
returns c = upstreams_exchanged
