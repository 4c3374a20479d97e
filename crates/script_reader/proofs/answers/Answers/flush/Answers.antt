use Rattle.std.proofs.Common.{arith, sym}
use Rattle.script_reader.proofs.ShownLemmas.{keeps_appends, with_false, with_true}
use Rattle.script_reader.proofs.answers.Answers.flush.Goals as goal

pub returns-in-Ok : goal.returns-in-Ok
returns-in-Ok g c = record { status_is = omega arith; written_is = sym (with_true c.args.self.now.is_written); shown = keeps_appends _ _ c.in-Ok.ensures.bytes }

pub returns-in-Err : goal.returns-in-Err
returns-in-Err g c = record { status_is = omega arith; written_is = sym (with_false c.args.self.now.is_written); shown = tt }
