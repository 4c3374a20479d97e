use Rattle.std.proofs.Common.{◌∙◌, List, Result, Ok, refl, sym, ap, inl, inr}
use Rattle.answer_lines.specs.explain.declared.reasons.ExplainFault.{ExplainFault}
use Rattle.answer_lines.specs.explain.declared.reasons.Reason.{Reason}
use Rattle.answer_lines.specs.Reasons.{explain_fault_text, reasons_text}
use Rattle.script_reader.proofs.ShownLemmas.{counted_put}
use Rattle.script_reader.proofs.answers.Answers.explain.Goals as goal

pub returns-in-Ok : goal.returns-in-Ok
returns-in-Ok g c = (
  0,
  reasons_text c.as_slice.result.now,
  (refl, inl (c.as_slice.result.now, c.in-Ok.ensures.reasons ∙ ap (λ (l : List Reason). let r : Result (List Reason) ExplainFault = Ok l in r) (sym c.as_slice.ensures.value), refl, refl)),
  counted_put g.W.Write.contents _ _ _ _ c.args.self.now (record c.args.self.now { output = c.put_reasons-put.new.output }) _ c.put_reasons-put.ensures refl refl c.count.ensures.counted c.count.ensures.put,
)

pub returns-in-Err : goal.returns-in-Err
returns-in-Err g c = (
  c.explain_status-status.result,
  explain_fault_text c.in-Err.fault,
  (refl, inr (c.in-Err.fault, c.in-Err.ensures.fault, c.explain_status-status.ensures, refl)),
  c.put.ensures,
)
