use Rattle.std.proofs.Common.{arith}
use Rattle.cron_timetable.proofs.JumpLemmas.{past_greatest_to}
use Rattle.cron_timetable.proofs.field_sets.FieldSet.past_greatest_to.Goals as goal

pub returns-clause-to : goal.returns-clause-to
returns-clause-to c = (past_greatest_to c.self.inside.bits c.args.n (omega arith) c.requires).to

pub returns-clause-none : goal.returns-clause-none
returns-clause-none c = rw (← c.self.view_is) (past_greatest_to c.self.inside.bits c.args.n (omega arith) c.requires).none

pub returns-clause-found : goal.returns-clause-found
returns-clause-found c = rw (← c.self.view_is) (past_greatest_to c.self.inside.bits c.args.n (omega arith) c.requires).found
