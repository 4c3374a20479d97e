use Rattle.std.proofs.Common.{◌∙◌, ℕ, List, ap, sym, subst}
use Rattle.sched_model.specs.Lists.{rises}
use Rattle.sched_model.specs.Schedule.{Schedule}
use Rattle.run_lists.specs.Overlays.{AreAllTouched}
use Rattle.sched_settling.specs.Marks.{id_before}
use Rattle.sched_settling.proofs.AmongLemmas.{among}
use Rattle.sched_settling.proofs.LineLemmas.{all_startings}
use Rattle.sched_settling.proofs.OverLemmas.{base_rises}
use Rattle.sched_settling.proofs.counting.lines_of.Goals as goal

pub lines_below-requires : goal.lines_below-requires
lines_below-requires c = base_rises c.args.draft.now.touched c.args.draft.now.base.runs c.args.draft.now.content.runs c.in_ok-touched.ensures.over c.requires.runs

pub recount-requires-clause-touched : goal.recount-requires-clause-touched
recount-requires-clause-touched c = subst (λ (ns : List ℕ). AreAllTouched ns c.args.draft.now.base.runs c.args.draft.now.content.runs) (sym (c.as_slice.ensures.value ∙ c.in_ok-touched.ensures.positions)) c.in_ok-touched.ensures.over

pub returns-clause-lines : goal.returns-clause-lines
returns-clause-lines c =
    let b : Schedule = c.args.draft.now.content in
    let made = c.in_ok-recount.ensures in
    record {
      rising = ap (rises id_before) made.ids ∙ c.in_ok-lines.ensures.rising;
      each = made.each;
      startings = all_startings b c.in_ok-lines.lines.items c.recount.new.lines.items made.ids c.in_ok-lines.ensures.all;
    }

pub returns-clause-all : goal.returns-clause-all
returns-clause-all c = λ n g there. ap (λ js. among js g.dag.spec.dag_id) c.in_ok-recount.ensures.ids ∙ c.in_ok-lines.ensures.all n g there
