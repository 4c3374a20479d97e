use Rattle.std.proofs.Common.{◌≡◌, ◌∙◌, ℕ, List, true, false, ap, sym, subst}
use Rattle.script_commands.specs.Commands.{ends_text, with_line}
use Rattle.script_commands.specs.Gathered.{Gathers}
use Rattle.script_commands.specs.declared.graph_texts.Gathered.{Gathered}
use Rattle.script_commands.proofs.TextLemmas.{stands-line, text-ended, text-unended, long-line, long-goes_on}
use Rattle.script_commands.proofs.graph_texts.read_text.Goals as goal
use Rattle.script_commands.proofs.graph_texts.read_text.Goals.{in-Line-2, in-LongLine}

pub returns-in-Line-clause-first : goal.returns-in-Line-clause-first
returns-in-Line-clause-first g c = λ bytes known.
    let s = c.loop-line.invariant bytes known in
    let first = rw c.in-Line.is at (c.in_ok-read.ensures.next s.left s.known) in
    let ends : ends_text c.read.new.self.line ≡ true = ap ends_text (sym c.line.ensures.value) ∙ sym c.ends_text.ensures ∙ c.if-ends_text.true in
    text-ended c.args.taking _ _ _ _ _ c.read.new.self.line s first.0 ends c.take.ensures.take

pub returns-in-End-clause-first : goal.returns-in-End-clause-first
returns-in-End-clause-first g c = λ bytes known.
    let s = c.loop-line.invariant bytes known in
    let last = rw c.in-End.is at (c.in_ok-read.ensures.next s.left s.known) in
    text-unended c.args.taking _ _ _ _ s last.0 last.1

pub loop-line-preserved : goal.loop-line-preserved
loop-line-preserved g c = λ bytes known.
    let s = c.loop-line.invariant bytes known in
    elim c.match-branch-2.branch [
      | in-Line-2 w ↦
          let first = rw w.in-Line.is at (c.in_ok-read.ensures.next s.left s.known) in
          let other : ends_text c.read.new.self.line ≡ false = ap ends_text (sym w.line.ensures.value) ∙ sym w.ends_text.ensures ∙ w.if-ends_text.false in
          stands-line c.args.taking _ _ _ _ _ c.read.new.self.line s first.0 other
          (λ h. subst (λ (x : Gathered). Gathers (with_line s.text c.read.new.self.line) x) (sym w.gathered-is)
          (subst (λ (l : List ℕ). Gathers (with_line s.text l) w.with_line-gathered.result) w.line-in-Line-2.ensures.value
          (w.with_line-gathered.ensures s.text h)))
      | in-LongLine w ↦
          let long = rw w.in-LongLine.is at (c.in_ok-read.ensures.next s.left s.known) in
          stands-line c.args.taking _ _ _ _ _ long.0 s long.1 (long-goes_on long.0 long.2)
          (λ h. subst (λ (x : Gathered). Gathers (with_line s.text long.0) x) (sym w.gathered-is) (long-line s.text long.0 long.2))
    ]
