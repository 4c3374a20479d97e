use Rattle.std.proofs.Common.{refl}
use Rattle.script_reader.proofs.ShownLemmas.{counted_put}
use Rattle.script_reader.proofs.answers.Answers.write.Goals as goal

pub returns : goal.returns
returns g c = counted_put g.W.Write.contents _ _ _ _ c.args.self.now (record c.args.self.now { output = c.put-put.new.output }) _ c.put-put.ensures refl refl c.count.ensures.counted c.count.ensures.put
