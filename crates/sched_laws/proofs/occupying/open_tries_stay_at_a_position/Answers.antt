use Rattle.sched_laws.proofs.OccupyingLemmas.{open_in_phase, open_changed}
use Rattle.sched_laws.proofs.occupying.open_tries_stay_at_a_position.Goals as goal

pub returns-clause-phase : goal.returns-clause-phase
returns-clause-phase c = open_in_phase

pub returns-clause-instance : goal.returns-clause-instance
returns-clause-instance c = open_changed
