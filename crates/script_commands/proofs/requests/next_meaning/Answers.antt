use Rattle.std.proofs.Common.{List, ℕ, subst, ◌∙◌}
use Rattle.script_commands.specs.Meanings.{IsReadAs}
use Rattle.script_commands.specs.Commands.{meaning_of}
use Rattle.script_commands.proofs.ScriptLemmas.{good_read}
use Rattle.script_commands.proofs.requests.next_meaning.Goals as goal

pub returns-in-Line-clause-next : goal.returns-in-Line-clause-next
returns-in-Line-clause-next g c = λ bytes known.
    let next = rw c.in-Line.is at (c.in_ok-read.ensures.next bytes known) in
    (c.read.new.self.line, next.0, subst (λ (l : List ℕ). IsReadAs (meaning_of l) c.meaning_of.result) c.line.ensures.value c.meaning_of.ensures)

pub returns-in-LongLine-clause-next : goal.returns-in-LongLine-clause-next
returns-in-LongLine-clause-next g c = λ bytes known.
    let next = rw c.in-LongLine.is at (c.in_ok-read.ensures.next bytes known) in
    (next.0, next.1, c.meaning_of_long.ensures.is next.0 next.2 (c.line-in-LongLine.ensures.value ∙ next.3) next.4)

pub returns-in-End-clause-next : goal.returns-in-End-clause-next
returns-in-End-clause-next g c = λ bytes known.
    let next = rw c.in-End.is at (c.in_ok-read.ensures.next bytes known) in (next.0, next.1)

pub returns-in-Line-clause-asked : goal.returns-in-Line-clause-asked
returns-in-Line-clause-asked g c = good_read c.words_ask_for_no_report.ensures c.line.result.now c.meaning_of.result c.meaning_of.ensures
