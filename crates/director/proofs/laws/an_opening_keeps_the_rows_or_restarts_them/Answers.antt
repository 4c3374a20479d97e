use Rattle.director.proofs.OpenLemmas.{either, second_restarts, unmigrated}
use Rattle.director.proofs.laws.an_opening_keeps_the_rows_or_restarts_them.Goals as goal

pub returns-clause-either : goal.returns-clause-either
returns-clause-either c = either

pub returns-clause-second : goal.returns-clause-second
returns-clause-second c = second_restarts

pub returns-clause-unmigrated : goal.returns-clause-unmigrated
returns-clause-unmigrated c = unmigrated
