use Rattle.run_planner.proofs.LaterLemmas.{none_anew_later}
use Rattle.run_planner.proofs.laws.no_later_tick_makes_a_run_anew.Goals as goal

pub returns : goal.returns
returns c = none_anew_later
