use Rattle.std.proofs.Common.{true, false, sym, arith}
use Rattle.std.specs.Result.{is_ok}
use Rattle.run_lists.proofs.PlaceLemmas.{has_room, looked, put_done, put_there}
use Rattle.run_lists.proofs.positions.put_in.Goals as goal

pub returns-then-is_at-clause-items : goal.returns-then-is_at-clause-items
returns-then-is_at-clause-items c =
    sym (put_there c.args.position c.args.positions.now.items
    (looked c.args.position c.args.positions.now.items c.deref.result.now c.deref-2.result.now c.place_of-place.result c.is_at.result true c.deref.ensures.value c.deref-2.ensures.value c.place_of-place.ensures.place c.is_at.ensures c.if-is_at.true))

pub returns-clause-items : goal.returns-clause-items
returns-clause-items c =
    let off = looked c.args.position c.args.positions.now.items c.deref.result.now c.deref-2.result.now c.place_of-place.result c.is_at.result false c.deref.ensures.value c.deref-2.ensures.value c.place_of-place.ensures.place c.is_at.ensures c.if-is_at.false in
    let few = has_room c.args.position c.args.positions.now.items _ off c.requires.room in
    put_done c.args.position c.args.positions.now.items c.deref.result.now c.insert.new.self.items c.place_of-place.result (is_ok c.insert.result) c.deref.ensures.value c.place_of-place.ensures.place off c.insert.ensures.items
    (c.insert.ensures.succeeds (omega (arith, few, c.args.positions.now.ok.0)))
