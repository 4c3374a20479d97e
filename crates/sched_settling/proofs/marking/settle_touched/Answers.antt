use Rattle.std.proofs.Common.{◌≡◌, ◌∙◌, ℕ, sym, subst, true}
use Rattle.sched_draft.specs.Drafts.{DraftValue}
use Rattle.sched_settling.specs.Marks.{are_within}
use Rattle.sched_settling.specs.Touched.{IsTouched}
use Rattle.sched_settling.proofs.CarryLemmas.{touch_rises, touch_within, touch_runs, touch_ends}
use Rattle.sched_settling.proofs.OverLemmas.{touched_is}
use Rattle.sched_settling.proofs.marking.settle_touched.Goals as goal

pub marks_from-requires-clause-rising : goal.marks_from-requires-clause-rising
marks_from-requires-clause-rising c =
    let d : DraftValue = c.args.draft.now in
    touch_rises d.base.runs c.as_slice.result.now d.content (touched_is d c.as_slice.result.now (c.as_slice.ensures.value ∙ c.in_ok-touched.ensures.positions) c.in_ok-touched.ensures.over c.requires.still c.requires.ordered c.requires.dags)

pub marks_from-requires-clause-within : goal.marks_from-requires-clause-within
marks_from-requires-clause-within c =
    let d : DraftValue = c.args.draft.now in
    subst (λ (n : ℕ). are_within n c.as_slice.result.now ≡ true) (sym c.run_count.ensures)
    (touch_within d.base.runs c.as_slice.result.now d.content (touched_is d c.as_slice.result.now (c.as_slice.ensures.value ∙ c.in_ok-touched.ensures.positions) c.in_ok-touched.ensures.over c.requires.still c.requires.ordered c.requires.dags))

pub settle_from-requires-clause-covered : goal.settle_from-requires-clause-covered
settle_from-requires-clause-covered c =
    let d : DraftValue = c.args.draft.now in
    let t : IsTouched d.base.runs c.as_slice.result.now d.content = touched_is d c.as_slice.result.now (c.as_slice.ensures.value ∙ c.in_ok-touched.ensures.positions) c.in_ok-touched.ensures.over c.requires.still c.requires.ordered c.requires.dags in
    c.in_ok-marks.ensures d.content c.run_count.ensures (touch_runs d.base.runs c.as_slice.result.now d.content c.requires.keyed.ordered t) (touch_ends d.base.runs c.as_slice.result.now d.content t)
