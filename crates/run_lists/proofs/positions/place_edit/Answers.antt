use Rattle.std.proofs.Common.{arith}
use Rattle.run_lists.proofs.HoldLemmas.{placed_few}
use Rattle.run_lists.proofs.positions.place_edit.Goals as goal

pub place-requires-clause-room : goal.place-requires-clause-room
place-requires-clause-room c =
    let few = placed_few c.args.edit.now.is_new c.stands-running.result c.args.edit.now.from c.reserve.new.self.items in
    omega (arith, few, c.in_ok-reserve.ensures.ok, c.in_ok-reserve.ensures.capacity, c.in_ok-reserve.ensures.succeeds, c.reserve.new.self.ok.0)
