use Rattle.priority_weights.proofs.WeightLemmas.{one-weight, weight-is}
use Rattle.priority_weights.proofs.laws.a_place_has_one_weight.Goals as goal

pub returns-clause-one : goal.returns-clause-one
returns-clause-one c = one-weight

pub returns-clause-is : goal.returns-clause-is
returns-clause-is c = weight-is
