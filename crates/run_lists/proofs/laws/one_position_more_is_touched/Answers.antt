use Rattle.run_lists.proofs.PositionLemmas.{in_more}
use Rattle.run_lists.proofs.laws.one_position_more_is_touched.Goals as goal

pub returns : goal.returns
returns c m n ns = in_more m n ns
