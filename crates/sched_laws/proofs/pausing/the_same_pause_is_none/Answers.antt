use Rattle.sched_laws.proofs.PauseLemmas.{pause_again}
use Rattle.sched_laws.proofs.pausing.the_same_pause_is_none.Goals as goal

pub returns : goal.returns
returns c = λ id paused a g s found is. pause_again id paused a g s.graphs_by_id found is
