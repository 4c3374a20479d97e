use Rattle.answer_lines.specs.Reasons.{reason_line}
use Rattle.answer_lines.proofs.AppendLemmas.{appends_more}
use Rattle.answer_lines.proofs.reasons.put_reason_lines.Goals as goal

pub loop-reason-preserved : goal.loop-reason-preserved
loop-reason-preserved g c = appends_more reason_line _ _ c.reason-item.result _ _ _ c.loop-reason-test.true c.reason-item.is c.loop-reason.invariant c.in_ok-put_reason.ensures
