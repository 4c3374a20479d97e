use Rattle.std.proofs.Common.{List, subst}
use Rattle.sched_settling.specs.Marks.{IsLineAt}
use Rattle.sched_settling.specs.declared.lines.GraphRuns.{GraphRuns}
use Rattle.sched_settling.proofs.AmongLemmas.{line_there}
use Rattle.sched_settling.proofs.LineLemmas.{all_has}
use Rattle.sched_settling.proofs.ending.provide_line.Goals as goal

pub returns-in-Ok-clause-there : goal.returns-in-Ok-clause-there
returns-in-Ok-clause-there c = λ g e.
    line_there c.args.lines.now.items c.args.id.now c.in-Ok.field-0 (subst (λ (ls : List GraphRuns). IsLineAt ls c.args.id.now c.in-Ok.field-0) c.deref.ensures.value c.in-Ok.ensures)

pub returns-in_ok-lines-in-Err-clause-there : goal.returns-in_ok-lines-in-Err-clause-there
returns-in_ok-lines-in-Err-clause-there c = λ g e. all_has c.args.draft.now.content.graphs c.in_ok-lines-in-Err.field-0.items c.args.id.now g c.in_ok-lines-in-Err.ensures.all e
