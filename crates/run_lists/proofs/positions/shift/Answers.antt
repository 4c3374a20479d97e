use Rattle.std.proofs.Common.{◌+◌, ◌∙◌, ap, sym, refl, set, arith}
use Rattle.run_lists.proofs.ShiftLemmas.{bumped_from, bumped_is, bumped_past, bumped_step, small_all, small_step}
use Rattle.run_lists.specs.Positions.{place_of}
use Rattle.run_lists.proofs.positions.shift.Goals as goal

pub loop-index-init : goal.loop-index-init
loop-index-init c = (
  ap (λ n. bumped_from n c.args.positions.now.items) (c.place_of-index.ensures.place ∙ ap (place_of c.args.position) c.deref.ensures.value) ∙ bumped_is c.args.position c.args.positions.now.items c.requires.rising,
  (small_all c.place_of-index.result c.args.positions.now.items c.requires.small, (omega arith, refl)),
)

pub loop-index-preserved : goal.loop-index-preserved
loop-index-preserved c = (
  ap (λ x. bumped_from (c.loop-index.index + 1) (set c.loop-index.positions.items c.loop-index.index (x + 1))) c.index_mut.ensures.value
      ∙ (bumped_step c.loop-index.index (c.loop-index.index + 1) c.loop-index.positions.items c.index_mut.result.now refl ∙ c.loop-index.invariant.0),
  (small_step c.loop-index.index c.loop-index.positions.items (c.index_mut.result.now + 1) c.loop-index.invariant.1.0, c.loop-index.invariant.1.1),
)

pub returns-clause-items : goal.returns-clause-items
returns-clause-items c =
    sym (bumped_past c.loop-index.index c.loop-index.positions.items (omega (arith, c.loop-index-test.false, c.loop-index.positions.ok.0, c.loop-index.invariant.1.1.1, c.len-index-end.ensures))) ∙ c.loop-index.invariant.0
