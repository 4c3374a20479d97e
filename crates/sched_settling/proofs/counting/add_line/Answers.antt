use Rattle.std.proofs.Common.{List, subst}
use Rattle.sched_settling.specs.Marks.{IsGapFor, IsLineAt}
use Rattle.sched_settling.specs.declared.lines.GraphRuns.{GraphRuns}
use Rattle.sched_settling.proofs.AmongLemmas.{added_already, added_new}
use Rattle.sched_settling.proofs.counting.add_line.Goals as goal

pub returns-in_ok-insert : goal.returns-in_ok-insert
returns-in_ok-insert c =
    let gap = subst (λ (ls : List GraphRuns). IsGapFor ls c.args.id.now c.in-Err.place) c.deref.ensures.value c.in-Err.ensures in
    added_new c.args.runs.now.runs c.args.id.now c.args.lines.now.items c.insert.new.self.items c.in-Err.place c.line_in.result gap c.line_in.ensures.id c.line_in.ensures.line c.line_in.ensures.fresh c.in_ok-insert.ensures.items

pub returns-in_default : goal.returns-in_default
returns-in_default c =
    added_already c.args.runs.now.runs c.args.id.now c.args.lines.now.items c.in_default.field-0 c.requires.rising
    (subst (λ (ls : List GraphRuns). IsLineAt ls c.args.id.now c.in_default.field-0) c.deref.ensures.value c.in_default.ensures)
