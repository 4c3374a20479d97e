use Rattle.std.proofs.Common.{true, false, sym}
use Rattle.run_lists.proofs.PlaceLemmas.{looked, take_none, taken}
use Rattle.run_lists.proofs.positions.take_out.Goals as goal

pub returns-then-is_at-clause-items : goal.returns-then-is_at-clause-items
returns-then-is_at-clause-items c =
    taken c.args.position c.args.positions.now.items c.deref.result.now c.remove.new.self.items c.place_of-place.result c.deref.ensures.value c.place_of-place.ensures.place
    (looked c.args.position c.args.positions.now.items c.deref.result.now c.deref-2.result.now c.place_of-place.result c.is_at.result true c.deref.ensures.value c.deref-2.ensures.value c.place_of-place.ensures.place c.is_at.ensures c.if-is_at.true)
    c.remove.ensures.items

pub returns-else-is_at-clause-items : goal.returns-else-is_at-clause-items
returns-else-is_at-clause-items c =
    sym (take_none c.args.position c.args.positions.now.items
    (looked c.args.position c.args.positions.now.items c.deref.result.now c.deref-2.result.now c.place_of-place.result c.is_at.result false c.deref.ensures.value c.deref-2.ensures.value c.place_of-place.ensures.place c.is_at.ensures c.if-is_at.false))
