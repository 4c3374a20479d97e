use Rattle.sched_laws.proofs.LoadLemmas.{load_open}
use Rattle.sched_laws.proofs.OccupyingLemmas.{open_paused, open_cleared, open_added, open_restarted}
use Rattle.sched_laws.proofs.SlotLemmas.{open_settled}
use Rattle.sched_laws.proofs.occupying.open_tries_stay.Goals as goal

pub returns-clause-loaded : goal.returns-clause-loaded
returns-clause-loaded c = load_open

pub returns-clause-paused : goal.returns-clause-paused
returns-clause-paused c = open_paused

pub returns-clause-cleared : goal.returns-clause-cleared
returns-clause-cleared c = open_cleared

pub returns-clause-added : goal.returns-clause-added
returns-clause-added c = open_added

pub returns-clause-settled : goal.returns-clause-settled
returns-clause-settled c = open_settled

pub returns-clause-restarted : goal.returns-clause-restarted
returns-clause-restarted c = open_restarted
