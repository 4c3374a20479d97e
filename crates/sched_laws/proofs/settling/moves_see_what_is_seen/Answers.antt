use Rattle.sched_laws.proofs.SeenLemmas.{still_seen}
use Rattle.sched_laws.proofs.settling.moves_see_what_is_seen.Goals as goal

pub returns : goal.returns
returns c = still_seen
