use Rattle.sched_laws.proofs.DecisionLemmas.{least_clean, passed_over, decided_marks, first_then_all, none_then_all, change_marks}
use Rattle.sched_laws.proofs.decisions.dirty_positions_are_enough.Goals as goal

pub returns : goal.returns
returns c = record { least = least_clean; over = passed_over; marks = decided_marks; goes = first_then_all; ends = none_then_all; changed = change_marks }
