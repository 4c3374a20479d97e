use Rattle.run_lists.proofs.PickLemmas.{picked_over}
use Rattle.run_lists.proofs.laws.touched_runs_stand_at_their_positions.Goals as goal

pub returns : goal.returns
returns c ms a b o = picked_over ms a b o
