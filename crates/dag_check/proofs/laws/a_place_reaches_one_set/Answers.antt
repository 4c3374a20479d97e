use Rattle.dag_check.proofs.GraphLemmas.{reached-one}
use Rattle.dag_check.proofs.WayLemmas.{reached-ways}
use Rattle.dag_check.proofs.laws.a_place_reaches_one_set.Goals as goal

pub returns-clause-one : goal.returns-clause-one
returns-clause-one c = reached-one

pub returns-clause-by_ways : goal.returns-clause-by_ways
returns-clause-by_ways c = reached-ways
