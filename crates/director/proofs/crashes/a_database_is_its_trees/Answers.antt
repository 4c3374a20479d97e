use Rattle.director.proofs.Starts.{one_database}
use Rattle.director.proofs.crashes.a_database_is_its_trees.Goals as goal

pub returns : goal.returns
returns c = one_database
