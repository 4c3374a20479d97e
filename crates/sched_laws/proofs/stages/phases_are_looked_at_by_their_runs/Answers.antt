use Rattle.sched_laws.proofs.StageLemmas.{other_phase, phase_covers, end_quiet, end_alone}
use Rattle.sched_laws.proofs.stages.phases_are_looked_at_by_their_runs.Goals as goal

pub returns : goal.returns
returns c = record { decisions = other_phase; covers = phase_covers; quiet = end_quiet; ends = end_alone }
