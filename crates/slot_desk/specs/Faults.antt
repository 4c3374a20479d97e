-- When a hold is refused, and for which cause. Of two causes the first counts: a double serial, a full book, want of memory.
use Rattle.std.specs.Prelude.{◌≡◌, ℕ, ◌<◌, true, false, List, ◌++◌, length}
use Rattle.std.specs.List.{Contains}
use Rattle.slot_desk.specs.declared.holds.Hold.{Hold}
use Rattle.slot_desk.specs.declared.faults.DeskFault.{DeskFault}
use Rattle.slot_desk.specs.declared.faults.DeskFault.TheVariants.{DoubleSerial, Full, Memory, NotHeld, Torn}
use Rattle.slot_desk.specs.Holds.{has_serial, Lacks}

-- how many holds a desk's book has room for
-- restates: this project's own profile
abbrev pub most_holds : ℕ
most_holds = 1000000

-- a book with these holds, which may have up to `limit`, has room for one of this serial
-- restates: this project's own profile
abbrev pub HasRoomFor : ℕ → List Hold → ℕ → Type 0
HasRoomFor limit holds serial = (has_serial serial holds ≡ false) × (length holds < limit)

-- for which cause the book refuses it
-- restates: this project's own profile
abbrev pub IsRefusedBy : ℕ → List Hold → ℕ → DeskFault → Type 0
IsRefusedBy limit holds serial DoubleSerial = has_serial serial holds ≡ true
IsRefusedBy limit holds serial Full = (has_serial serial holds ≡ false) × (length holds ≡ limit)
IsRefusedBy limit holds serial Memory = HasRoomFor limit holds serial
IsRefusedBy limit holds serial NotHeld = ⊥
IsRefusedBy limit holds serial Torn = ⊥

-- a desk whose book has these holds has room for a hold of this serial, entered by this share
-- restates: this project's own profile
abbrev pub MayEnter : List Hold → List Hold → ℕ → Type 0
MayEnter book share serial = (has_serial serial share ≡ false) × HasRoomFor most_holds book serial

-- for which cause the desk refuses it
-- restates: this project's own profile
abbrev pub IsRefusedEntry : List Hold → List Hold → ℕ → DeskFault → Type 0
IsRefusedEntry book share serial DoubleSerial = has_serial serial (book ++ share) ≡ true
IsRefusedEntry book share serial Full = (has_serial serial (book ++ share) ≡ false) × (length book ≡ most_holds)
IsRefusedEntry book share serial Memory = MayEnter book share serial
IsRefusedEntry book share serial NotHeld = ⊥
IsRefusedEntry book share serial Torn = ⊥

-- at one moment of the call it was refused for this cause
abbrev pub WasRefusedEntry : List Hold → ℕ → DeskFault → Type 0
WasRefusedEntry share serial fault = (book : List Hold) × IsRefusedEntry book share serial fault

-- for which cause the share does not leave its hold of this serial
-- restates: this project's own profile
abbrev pub IsRefusedLeave : List Hold → List Hold → ℕ → DeskFault → Type 0
IsRefusedLeave book share serial NotHeld = has_serial serial share ≡ false
IsRefusedLeave book share serial Torn = (hold : Hold) × (hold.serial ≡ serial) × Contains share hold × Lacks book hold
IsRefusedLeave book share serial DoubleSerial = ⊥
IsRefusedLeave book share serial Full = ⊥
IsRefusedLeave book share serial Memory = ⊥

-- at one moment of the call it did not, for this cause
abbrev pub WasRefusedLeave : List Hold → ℕ → DeskFault → Type 0
WasRefusedLeave share serial fault = (book : List Hold) × IsRefusedLeave book share serial fault
