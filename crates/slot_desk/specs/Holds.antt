-- Lists of holds: which serials and slots they have.
use Rattle.std.specs.Prelude.{◌≢◌, ℕ, ◌<◌, ◌==◌, ◌&&◌, not, Bool, true, List, [], ◌∷◌, length, filter, slice_index_or, sum_by}
use Rattle.std.specs.List.{list_any}
use Rattle.slot_desk.specs.declared.holds.Hold.{Hold}

-- a hold of this serial is among them
-- restates: this project's own profile
abbrev pub has_serial : ℕ → List Hold → Bool
has_serial serial holds = list_any (λ h. h.serial == serial) holds

-- no hold has the serial of one after it
-- restates: this project's own profile
abbrev pub have_distinct_serials : List Hold → Bool
have_distinct_serials [] = true
have_distinct_serials (h ∷ later) = not (has_serial h.serial later) && have_distinct_serials later

-- those that have another serial, in their order
abbrev pub without : ℕ → List Hold → List Hold
without serial holds = filter (λ h. not (h.serial == serial)) holds

-- none of them is this hold
abbrev pub Lacks : List Hold → Hold → Type 0
Lacks holds hold = (k : ℕ) → k < length holds → slice_index_or holds k hold ≢ hold

-- the slots of all of them together
-- restates: this project's own profile
abbrev pub slots_of : List Hold → ℕ
slots_of holds = sum_by (λ h. h.slots) holds

-- the slots in hand: of all holds of these shares together
-- restates: this project's own profile
abbrev pub in_hand : List (List Hold) → ℕ
in_hand shares = sum_by slots_of shares
