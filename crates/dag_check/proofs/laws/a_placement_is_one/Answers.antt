use Rattle.dag_check.proofs.LawLemmas.{placement-one}
use Rattle.dag_check.proofs.laws.a_placement_is_one.Goals as goal

pub returns : goal.returns
returns c = placement-one
