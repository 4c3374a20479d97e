use Rattle.std.proofs.Common.{append_assoc}
use Rattle.std.proofs.lemmas.Result.{on_ok_weaker}
use Rattle.std.specs.Fmt.{decimal}
use Rattle.moment_core.specs.Printing.{text_of}
use Rattle.answer_lines.proofs.AppendLemmas.{appends_same, try_texts}
use Rattle.answer_lines.proofs.jobs.put_job.Goals as goal

pub returns : goal.returns
returns g c =
    let j = c.args.job.now in
    on_ok_weaker c.writeln.result (λ h. appends_same _ _ _ _ (try_texts (decimal j.serial) j.graph (text_of j.logical) j.task (decimal j.try_number)) h)
    (rw (c.as_str-graph.ensures.text, c.as_str-task.ensures.text) at (let h = simp append_assoc at c.writeln.ensures.bytes in h))
