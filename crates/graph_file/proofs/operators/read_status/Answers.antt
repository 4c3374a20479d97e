use Rattle.std.proofs.Common.{sym, ◌∙◌, arith}
use Rattle.graph_file.proofs.StatusLemmas.{digits_listed, status_of-long, status_of-other, status_read}
use Rattle.graph_file.proofs.operators.read_status.Goals as goal
use Rattle.graph_file.proofs.operators.read_status.Goals.{then-text-gt3-via-then-text-gt3, then-text-gt3-via-else-text-gt3+then-not-are_digits}

pub returns-then-text-gt3 : goal.returns-then-text-gt3
returns-then-text-gt3 c =
    elim c.then-text-gt3.branch [
      | then-text-gt3-via-then-text-gt3 w ↦ sym (status_of-long c.args.text.now w.if-text-gt3.true)
      | then-text-gt3-via-else-text-gt3+then-not-are_digits w ↦
          sym (status_of-other c.args.text.now (rw w.as_bytes.ensures.value at (sym (digits_listed w.as_bytes.result.now) ∙ sym w.are_digits.ensures ∙ w.if-not-are_digits.true)))
    ]

pub returns : goal.returns
returns c =
    let digits = rw c.as_bytes.ensures.value at (sym (digits_listed c.as_bytes.result.now) ∙ sym c.are_digits.ensures ∙ c.if-not-are_digits.false) in
    c.ok.ensures.value ∙ status_read c.args.text.now c.parse.result c.parse.ensures.value.0 (omega arith) digits
