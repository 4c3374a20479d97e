use Rattle.std.proofs.Common.{◌≡◌, ◌∙◌, ◌^◌, ◌-◌, ◌<◌, ◌+◌, suc, ap, drop, length, nat_lt, arith}
use Rattle.sched_model.specs.Lists.{rises}
use Rattle.run_lists.specs.Edits.{edited}
use Rattle.run_lists.specs.Positions.{stands}
use Rattle.run_lists.specs.declared.positions.Standing.TheVariants.{Running}
use Rattle.run_lists.proofs.HoldLemmas.{place_step, places_rise, small_edited}
use Rattle.run_lists.proofs.overlays.Overlay.running.Goals as goal

pub place_edit-requires-clause-rising : goal.place_edit-requires-clause-rising
place_edit-requires-clause-rising c = ap (rises nat_lt) c.loop-place.invariant.0 ∙ places_rise (stands Running) (edited (drop c.loop-place.place c.self.inside.edits.items) c.self.inside.base.now.runs)

pub place_edit-requires-clause-small : goal.place_edit-requires-clause-small
place_edit-requires-clause-small c =
    let few : length c.self.inside.base.now.runs + length c.self.inside.edits.items < 2 ^ 64 = omega (arith, c.len.ensures.len, c.len.ensures.small, c.self.inside.edits.ok.0, c.self.inside.edits.ok.1, c.self.inside.edits.small) in
    small_edited (stands Running) c.loop-place.place (2 ^ 64) c.self.inside.edits.items c.self.inside.base.now.runs c.loop-place.positions.items c.self.invariant few c.loop-place.invariant.0

pub loop-place-preserved : goal.loop-place-preserved
loop-place-preserved c =
    let one : c.loop-place.place ≡ suc (c.loop-place.place - 1) = omega (arith, c.loop-place-test.true) in
    let low : c.loop-place.place - 1 < length c.self.inside.edits.items = omega (arith, c.loop-place-test.true, c.loop-place.invariant.1) in (
      place_step (stands Running) (c.loop-place.place - 1) c.loop-place.place c.self.inside.edits.items c.self.inside.base.now.runs c.index.result.now c.loop-place.positions.items c.place_edit.new.positions.items c.self.invariant one low c.index.ensures
          c.loop-place.invariant.0 c.in_ok-place_edit.ensures,
      omega (arith, low),
    )
