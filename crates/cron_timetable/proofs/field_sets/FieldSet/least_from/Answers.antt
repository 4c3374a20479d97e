use Rattle.std.proofs.Common.{arith}
use Rattle.cron_timetable.proofs.JumpLemmas.{least_from}
use Rattle.cron_timetable.proofs.field_sets.FieldSet.least_from.Goals as goal

pub returns-clause-none : goal.returns-clause-none
returns-clause-none c = rw (← c.self.view_is) (least_from c.self.inside.bits c.args.n (omega arith) c.requires).none

pub returns-clause-found : goal.returns-clause-found
returns-clause-found c = rw (← c.self.view_is) (least_from c.self.inside.bits c.args.n (omega arith) c.requires).found
