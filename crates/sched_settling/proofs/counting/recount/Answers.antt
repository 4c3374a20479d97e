use Rattle.std.proofs.Common.{◌∙◌, List, ap, refl, subst, length}
use Rattle.sched_state.specs.declared.runs.Run.{Run}
use Rattle.sched_model.specs.Lists.{rises}
use Rattle.sched_model.specs.Schedule.{Schedule}
use Rattle.sched_settling.specs.Marks.{are_within, id_before}
use Rattle.sched_settling.specs.Touched.{EachLine, IsCountedIn, IsCountedOff, runs_at, bases_at}
use Rattle.sched_settling.proofs.CarryLemmas.{carried_lines, positions_within, touched_runs, replaced_runs}
use Rattle.sched_settling.proofs.OverLemmas.{marked_is}
use Rattle.sched_settling.proofs.counting.recount.Goals as goal

pub count_all_in-requires-clause-within : goal.count_all_in-requires-clause-within
count_all_in-requires-clause-within c =
    let b : Schedule = c.args.draft.now.content in
    let rs : List Run = c.args.draft.now.base.runs in
    let m = marked_is c.args.touched.now c.args.touched.now rs b.runs refl c.requires.touched in
    ap (are_within (length b.runs)) m.positions ∙ positions_within m.marks rs b.runs m.over

pub count_all_off-requires-clause-within : goal.count_all_off-requires-clause-within
count_all_off-requires-clause-within c =
    let b : Schedule = c.args.draft.now.content in
    let rs : List Run = c.args.draft.now.base.runs in
    let m = marked_is c.args.touched.now c.args.touched.now rs b.runs refl c.requires.touched in
    ap (are_within (length b.runs)) m.positions ∙ positions_within m.marks rs b.runs m.over

pub count_all_off-requires-clause-rising : goal.count_all_off-requires-clause-rising
count_all_off-requires-clause-rising c = ap (rises id_before) (c.in_ok-count_all_in.ensures).0 ∙ c.requires.rising

pub returns : goal.returns
returns c =
    let b : Schedule = c.args.draft.now.content in
    let rs : List Run = c.args.draft.now.base.runs in
    let m = marked_is c.args.touched.now c.args.touched.now rs b.runs refl c.requires.touched in
    carried_lines b rs m.marks c.args.lines.now.items c.count_all_in.new.lines.items c.count_all_off.new.lines.items c.requires.runs m.over c.requires.fresh
    (subst (λ xs. EachLine (λ id. IsCountedIn id xs) c.args.lines.now.items c.count_all_in.new.lines.items) (ap (runs_at b.runs) m.positions ∙ touched_runs m.marks rs b.runs m.over) c.in_ok-count_all_in.ensures)
    (subst (λ xs. EachLine (λ id. IsCountedOff id xs) c.count_all_in.new.lines.items c.count_all_off.new.lines.items) (ap (bases_at rs b.runs) m.positions ∙ replaced_runs m.marks rs b.runs m.over c.requires.runs) c.count_all_off.ensures)
