use Rattle.std.proofs.Common.{◌∙◌, None, arith}
use Rattle.std.proofs.lemmas.Option.{none-some}
use Rattle.std.specs.Vec.Iter.{into_iter_items}
use Rattle.sched_model.specs.Schedule.{Schedule}
use Rattle.sched_model.proofs.sched_state.ElementLemmas.{element_at}
use Rattle.sched_ready.proofs.MakingLemmas.{before_all, running_first, without_runs}
use Rattle.sched_ready.proofs.PatchingLemmas.{next_within, patching_done, patching_more}
use Rattle.sched_ready.proofs.making.running_patches.Goals as goal

pub loop-position-init : goal.loop-position-init
loop-position-init c =
    running_first c.args.draft.now.content c.args.shelves.now (into_iter_items c.into_iter-position-iterator.result) c.new-patches.result.items
    (c.into_iter-position-iterator.ensures.into_iter_gives.0 ∙ c.in_ok-position-items.ensures) c.new-patches.ensures.items c.requires.empty

pub patch_run-requires-clause-position : goal.patch_run-requires-clause-position
patch_run-requires-clause-position c =
    let a : Schedule = c.args.draft.now.content in
    next_within (without_runs a) a c.args.shelves.now _ _ c.in-Some.position c.loop-position.patches.items c.in-Some.ensures.steps.0 c.loop-position.invariant

pub loop-position-preserved : goal.loop-position-preserved
loop-position-preserved c =
    let a : Schedule = c.args.draft.now.content in
    let ss = c.args.shelves.now in
    let r = element_at a.runs c.in-Some.position (next_within (without_runs a) a ss _ _ c.in-Some.position c.loop-position.patches.items c.in-Some.ensures.steps.0 c.loop-position.invariant) in
    patching_more (without_runs a) a ss _ (into_iter_items c.next.new.self) c.in-Some.position r.0 None c.loop-position.patches.items c.patch_run.new.patches.items
    c.in-Some.ensures.steps.0 (before_all a ss c.requires.fit) (λ q e. absurd (none-some q e)) (c.in_ok-patch_run.ensures r.0 r.1) c.loop-position.invariant

pub returns : goal.returns
returns c =
    let a : Schedule = c.args.draft.now.content in
    patching_done (without_runs a) a c.args.shelves.now _ c.loop-position.patches.items (omega (arith, c.in-None.ensures.steps.0, c.loop-position.position-iterator.rest.ok.0)) (before_all a c.args.shelves.now c.requires.fit) c.loop-position.invariant
