use Rattle.run_planner.proofs.DueLemmas.{due_members}
use Rattle.run_planner.proofs.laws.due_intervals_are_intervals.Goals as goal

pub returns : goal.returns
returns c = due_members
