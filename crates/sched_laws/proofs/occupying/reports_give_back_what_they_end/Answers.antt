use Rattle.sched_laws.proofs.OccupyingLemmas.{occupied_reported}
use Rattle.sched_laws.proofs.occupying.reports_give_back_what_they_end.Goals as goal

pub returns : goal.returns
returns c = occupied_reported
