use Rattle.std.proofs.Common.{◌≡◌, ◌*◌, ◌≤◌, take}
use Rattle.slot_desk.specs.Holds.{slots_of}
use Rattle.slot_desk.proofs.book.LimitedBook.slots.Given as goal

abbrev pub invariant-loop-hold : goal.invariant-loop-hold
invariant-loop-hold g l =
    (l.slots ≡ slots_of (take l.hold-index l.hold-items))
    × (l.hold-index ≤ l.slots)
    × (l.slots ≤ l.hold-index * 1000)
