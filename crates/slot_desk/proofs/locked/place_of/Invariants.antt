use Rattle.std.proofs.Common.{◌≡◌, false, take}
use Rattle.slot_desk.specs.Holds.{has_serial}
use Rattle.slot_desk.proofs.locked.place_of.Given as goal

abbrev pub invariant-loop-place : goal.invariant-loop-place
invariant-loop-place l = has_serial l.serial (take l.place l.holds) ≡ false
