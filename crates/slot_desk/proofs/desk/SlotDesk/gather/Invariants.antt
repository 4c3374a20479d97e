use Rattle.std.proofs.Common.{◌≡◌, ◌+◌, vec_items, length}
use Rattle.std.specs.Vec.Iter.{into_iter_items}
use Rattle.slot_desk.specs.Holds.{in_hand}
use Rattle.slot_desk.proofs.desk.SlotDesk.gather.Given as goal

abbrev pub invariant-loop-share : goal.invariant-loop-share
invariant-loop-share g l =
    let rest = into_iter_items l.share-iterator in
    (l.all.parts + length rest ≡ length (vec_items l.fn.shares)) × (l.all.amount + in_hand rest ≡ in_hand (vec_items l.fn.shares))
