use Rattle.std.proofs.Common.{append_assoc}
use Rattle.std.proofs.lemmas.Result.{on_ok_weaker}
use Rattle.moment_core.specs.Printing.{text_of}
use Rattle.sched_state.specs.RunIds.{kind_text}
use Rattle.answer_lines.proofs.AppendLemmas.{appends_same, made_texts}
use Rattle.answer_lines.proofs.answers.put_made_line.Goals as goal

pub returns : goal.returns
returns g c =
    let id = c.args.id.now in
    on_ok_weaker c.writeln.result (λ h. appends_same _ _ _ _ (made_texts id.graph (kind_text id.kind) (text_of id.logical)) h)
    (rw (c.as_str-graph.ensures.text, c.name-kind.ensures) at (let h = simp append_assoc at c.writeln.ensures.bytes in h))
