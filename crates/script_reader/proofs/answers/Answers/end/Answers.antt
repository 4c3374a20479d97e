use Rattle.std.proofs.Common.{arith, refl, sym}
use Rattle.script_reader.proofs.ShownLemmas.{appends_nothing, counted_put, with_true}
use Rattle.script_reader.proofs.answers.Answers.end.Goals as goal

pub returns-in-Ok-clause-put : goal.returns-in-Ok-clause-put
returns-in-Ok-clause-put g c = rw c.in-Ok.is (record { status_is = omega arith; written_is = sym (with_true c.args.self.now.is_written); shown = appends_nothing (g.W.Write.contents c.args.self.now.output) })

pub returns-in-Err-clause-put : goal.returns-in-Err-clause-put
returns-in-Err-clause-put g c =
    rw c.in-Err.is (counted_put g.W.Write.contents _ _ _ _ c.args.self.now (record c.args.self.now { output = c.write_end-ended.new.output; console = c.put.new.self }) _ c.write_end-ended.ensures refl refl c.count.ensures.counted c.count.ensures.put)
