use Rattle.std.proofs.Common.{◌∙◌, List, ap, refl, subst, length}
use Rattle.sched_state.specs.declared.runs.Run.{Run}
use Rattle.sched_model.specs.Lists.{rises}
use Rattle.sched_model.specs.Schedule.{Schedule}
use Rattle.sched_settling.specs.Marks.{are_within, id_before}
use Rattle.sched_settling.specs.Touched.{HaveLinesOf, runs_at}
use Rattle.sched_settling.proofs.CarryLemmas.{positions_within, touched_runs}
use Rattle.sched_settling.proofs.OverLemmas.{base_rises, marked_is}
use Rattle.sched_settling.proofs.StartLemmas.{these_startings}
use Rattle.sched_settling.proofs.counting.lines_of_touched.Goals as goal

pub lines_at-requires-clause-runs : goal.lines_at-requires-clause-runs
lines_at-requires-clause-runs c = base_rises c.args.touched.now c.args.draft.now.base.runs c.args.draft.now.content.runs c.requires.touched c.requires.runs

pub lines_at-requires-clause-within : goal.lines_at-requires-clause-within
lines_at-requires-clause-within c =
    let b : Schedule = c.args.draft.now.content in
    let rs : List Run = c.args.draft.now.base.runs in
    let m = marked_is c.args.touched.now c.args.touched.now rs b.runs refl c.requires.touched in
    ap (are_within (length b.runs)) m.positions ∙ positions_within m.marks rs b.runs m.over

pub returns : goal.returns
returns c =
    let a : Schedule = c.args.draft.now.base in
    let b : Schedule = c.args.draft.now.content in
    let m = marked_is c.args.touched.now c.args.touched.now a.runs b.runs refl c.requires.touched in
    let made = c.in_ok-recount.ensures in
    record {
      rising = ap (rises id_before) made.ids ∙ c.in_ok-lines.ensures.rising;
      each = made.each;
      startings = these_startings a b m.marks c.in_ok-lines.lines.items c.recount.new.lines.items c.requires.still m.over (c.keeps_graphs.ensures c.if-not-keeps_graphs.false) made.ids
          (subst (λ (rs : List Run). HaveLinesOf b rs c.in_ok-lines.lines.items) (ap (runs_at b.runs) m.positions ∙ touched_runs m.marks a.runs b.runs m.over) c.in_ok-lines.ensures.these);
    }
