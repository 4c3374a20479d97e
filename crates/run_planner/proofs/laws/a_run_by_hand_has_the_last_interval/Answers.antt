use Rattle.run_planner.proofs.ByHandLemmas.{manual_is}
use Rattle.run_planner.proofs.laws.a_run_by_hand_has_the_last_interval.Goals as goal

pub returns : goal.returns
returns c = manual_is
