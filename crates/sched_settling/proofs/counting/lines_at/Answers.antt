use Rattle.std.proofs.Common.{◌≡◌, ℕ, List, ap, sym, subst, length, take, Option, Some, None}
use Rattle.std.proofs.lemmas.List.{take_all}
use Rattle.sched_state.specs.declared.runs.Run.{Run}
use Rattle.sched_model.specs.Lists.{rises}
use Rattle.sched_model.specs.Schedule.{Schedule}
use Rattle.sched_settling.specs.Marks.{id_before, ids_of}
use Rattle.sched_settling.specs.Touched.{HaveLinesOf, over_runs, runs_at}
use Rattle.sched_settling.specs.declared.lines.GraphRuns.{GraphRuns}
use Rattle.sched_settling.proofs.CarryLemmas.{runs_more}
use Rattle.sched_settling.proofs.MarkLemmas.{within_at}
use Rattle.sched_settling.proofs.StartLemmas.{more_lines, none_fresh}
use Rattle.sched_settling.proofs.counting.lines_at.Goals as goal

pub loop-position-init : goal.loop-position-init
loop-position-init c = record {
  rising = ap (λ (ls : List GraphRuns). rises id_before (ids_of ls)) c.new-lines.ensures.items;
  fresh = none_fresh (over_runs c.args.draft.now.content c.args.draft.now.base.runs) c.new-lines.result.items c.new-lines.ensures.items;
  these = λ n r e. absurd (let d : ◌≡◌ {A = Option Run} None (Some r) = e in cc);
}

pub run-requires : goal.run-requires
run-requires c = within_at (length c.args.draft.now.content.runs) c.args.positions.now c.loop-position.position-index c.requires.within c.loop-position-test.true

pub loop-position-preserved : goal.loop-position-preserved
loop-position-preserved c =
    let b : Schedule = c.args.draft.now.content in
    let i : ℕ = c.loop-position.position-index in
    let ps : List ℕ = c.args.positions.now in
    let r : Run = c.run.result.now in
    let made = c.in_ok-add_line_of.ensures in
    record {
      rising = made.rising;
      fresh = made.fresh c.loop-position.invariant.fresh;
      these = subst (λ (rs : List Run). HaveLinesOf b rs c.add_line_of.new.lines.items) (sym (runs_more b.runs ps i r c.loop-position-test.true c.run.ensures))
          (more_lines b (runs_at b.runs (take i ps)) r c.loop-position.lines.items c.add_line_of.new.lines.items c.loop-position.invariant.these made.kept made.there);
    }

pub returns-clause-these : goal.returns-clause-these
returns-clause-these c =
    let b : Schedule = c.args.draft.now.content in
    subst (λ (ps : List ℕ). HaveLinesOf b (runs_at b.runs ps) c.loop-position.lines.items) (take_all c.loop-position.position-index c.args.positions.now c.loop-position-test.false) c.loop-position.invariant.these
