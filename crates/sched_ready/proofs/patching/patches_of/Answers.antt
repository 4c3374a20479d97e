use Rattle.std.proofs.Common.{◌∙◌, ℕ, List, subst, sym, arith}
use Rattle.std.specs.Option.{option_copied}
use Rattle.std.specs.Vec.Iter.{into_iter_items}
use Rattle.sched_model.proofs.sched_state.ElementLemmas.{element_at}
use Rattle.sched_draft.specs.Drafts.{DraftValue}
use Rattle.sched_ready.specs.Patching.{AreFirstPatches, AreShelvesBefore}
use Rattle.sched_ready.proofs.PatchingLemmas.{IsPatching, before_is, next_within, patching_done, patching_first, patching_more}
use Rattle.sched_ready.proofs.patching.patches_of.Goals as goal

pub loop-position-init : goal.loop-position-init
loop-position-init c =
    let d : DraftValue = c.args.draft.now in
    let ss = c.args.shelves.now in
    let before : AreShelvesBefore d.base d.content ss = record { shelves = c.requires.shelves; later = c.requires.later } in
    let first : AreFirstPatches d.content.now ss c.in_ok-patches.patches.items = subst (λ n. AreFirstPatches n ss c.in_ok-patches.patches.items) (c.secs.ensures.value ∙ c.clock.ensures) c.in_ok-patches.ensures in
    subst (λ (ns : List ℕ). IsPatching d.base d.content ss ns c.in_ok-patches.patches.items) (sym (c.into_iter-position-iterator.ensures.into_iter_gives.0 ∙ c.in_ok-position-items.ensures.positions))
    (patching_first d.base d.content d.touched ss c.in_ok-patches.patches.items c.in_ok-position-items.ensures.over before first)

pub before-before-requires-clause-within : goal.before-before-requires-clause-within
before-before-requires-clause-within c =
    let d : DraftValue = c.args.draft.now in
    next_within d.base d.content c.args.shelves.now _ _ c.in-Some.position c.loop-position.patches.items c.in-Some.ensures.steps.0 c.loop-position.invariant

pub patch_run-requires-clause-position : goal.patch_run-requires-clause-position
patch_run-requires-clause-position c =
    let d : DraftValue = c.args.draft.now in
    next_within d.base d.content c.args.shelves.now _ _ c.in-Some.position c.loop-position.patches.items c.in-Some.ensures.steps.0 c.loop-position.invariant

pub loop-position-preserved : goal.loop-position-preserved
loop-position-preserved c =
    let d : DraftValue = c.args.draft.now in
    let ss = c.args.shelves.now in
    let before : AreShelvesBefore d.base d.content ss = record { shelves = c.requires.shelves; later = c.requires.later } in
    let r = element_at d.content.runs c.in-Some.position (next_within d.base d.content ss _ _ c.in-Some.position c.loop-position.patches.items c.in-Some.ensures.steps.0 c.loop-position.invariant) in
    patching_more d.base d.content ss _ (into_iter_items c.next.new.self) c.in-Some.position r.0 (option_copied c.before-before.result) c.loop-position.patches.items c.patch_run.new.patches.items
    c.in-Some.ensures.steps.0 before (before_is d.base r.0 (option_copied c.before-before.result) (c.before-before.ensures r.0 r.1)) (c.in_ok-patch_run.ensures r.0 r.1) c.loop-position.invariant

pub returns : goal.returns
returns c =
    let d : DraftValue = c.args.draft.now in
    let before : AreShelvesBefore d.base d.content c.args.shelves.now = record { shelves = c.requires.shelves; later = c.requires.later } in
    patching_done d.base d.content c.args.shelves.now _ c.loop-position.patches.items (omega (arith, c.in-None.ensures.steps.0, c.loop-position.position-iterator.rest.ok.0)) before c.loop-position.invariant
