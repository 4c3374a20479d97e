use Rattle.run_planner.proofs.RiseLemmas.{due_rise}
use Rattle.run_planner.proofs.laws.due_intervals_rise.Goals as goal

pub returns : goal.returns
returns c timetable first t last = due_rise timetable first last t
