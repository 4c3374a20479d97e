use Rattle.sched_laws.proofs.StageLemmas.{change_ends, phase_ends, change_starts, phase_covers_starts}
use Rattle.sched_laws.proofs.stages.marked_runs_are_enough.Goals as goal

pub returns : goal.returns
returns c = record { end_by_instance = change_ends; end_by_phase = phase_ends; start_by_instance = change_starts; start_by_phase = phase_covers_starts }
