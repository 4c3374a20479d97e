-- Tiers of items, of which all before the last one that has items are full.
use Rattle.std.specs.Prelude.{◌≡◌, ℕ, ◌<◌, ◌≤◌, List, [], ◌∷◌, ◌++◌, length}

-- how many items a full tier has
abbrev pub tier_size : ℕ
tier_size = 1024

-- the items of all tiers, in their order
abbrev pub items_of : {X : Type 0} → List (List X) → List X
items_of [] = []
items_of (t ∷ ts) = t ++ items_of ts

-- behind a tier that isn't full there are no items
abbrev pub AreTiers : {X : Type 0} → List (List X) → Type 0
AreTiers [] = Unit {0}
AreTiers (t ∷ ts) = (length t ≤ tier_size) × (length t < tier_size → length (items_of ts) ≡ 0) × AreTiers ts
