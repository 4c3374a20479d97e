use Rattle.std.proofs.Common.{length}
use Rattle.operators.proofs.variables.+set_all.Given as goal

abbrev pub decreases-set_all : goal.decreases-set_all
decreases-set_all l = length l.variables.now
