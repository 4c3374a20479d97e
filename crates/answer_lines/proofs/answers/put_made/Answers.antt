use Rattle.answer_lines.specs.Answers.{made_line}
use Rattle.answer_lines.proofs.AppendLemmas.{appends_more}
use Rattle.answer_lines.proofs.answers.put_made.Goals as goal

pub loop-id-preserved : goal.loop-id-preserved
loop-id-preserved g c = appends_more made_line _ _ c.id-item.result _ _ _ c.loop-id-test.true c.id-item.is c.loop-id.invariant c.in_ok-put_made_line.ensures
