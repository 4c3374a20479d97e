use Rattle.std.proofs.Common.{◌∙◌, subst, sym}
use Rattle.script_commands.specs.declared.lines.Found.{Found}
use Rattle.script_commands.specs.Lines.{IsNextLine}
use Rattle.script_commands.proofs.LineLemmas.{reading-byte, read-ended, read-unended, read-end}
use Rattle.script_commands.proofs.lines.LineReader.read.Goals as goal

pub returns-in-None-clause-next : goal.returns-in-None-clause-next
returns-in-None-clause-next g c = λ bytes known.
    let next = rw c.in-None.is at c.in_ok-next_byte.ensures.next in
    read-end bytes _ _ _ c.loop-length.length c.loop-length.is_blank (c.loop-length.invariant.reading bytes known) next c.if-length-eq0.true

pub returns-in-None-2-clause-next : goal.returns-in-None-2-clause-next
returns-in-None-2-clause-next g c = λ bytes known.
    let next = rw c.in-None.is at c.in_ok-next_byte.ensures.next in
    subst (λ (f : Found). IsNextLine bytes f c.loop-length.self.line (g.R.Read.remaining c.next_byte.new.input)) (sym c.of.ensures)
    (read-unended bytes _ _ _ c.loop-length.length c.loop-length.is_blank (c.loop-length.invariant.reading bytes known) next c.if-length-eq0.false)

pub returns-in-Some-eq10-clause-next : goal.returns-in-Some-eq10-clause-next
returns-in-Some-eq10-clause-next g c = λ bytes known.
    let next = rw c.in-Some-eq10.is at c.in_ok-next_byte.ensures.next in
    subst (λ (f : Found). IsNextLine bytes f c.loop-length.self.line (g.R.Read.remaining c.next_byte.new.input)) (sym c.of-in-Some-eq10.ensures)
    (read-ended bytes _ _ _ c.loop-length.length c.in-Some-eq10.field-0 c.loop-length.is_blank (c.loop-length.invariant.reading bytes known) next c.in-Some-eq10.field-0-test)

pub loop-length-preserved : goal.loop-length-preserved
loop-length-preserved g c = record {
  reading = λ bytes known.
      let next = rw c.in-Some.is at c.in_ok-next_byte.ensures.next in
      reading-byte bytes _ _ _ _ c.loop-length.length c.in-Some.byte c.loop-length.is_blank _ (c.loop-length.invariant.reading bytes known) next c.in-Some.byte-test.1 c.keep.ensures.line c.is_blank_after-is_blank.ensures;
  number = c.keep.ensures.number ∙ c.loop-length.invariant.number;
}
