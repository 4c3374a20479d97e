-- A list with elements.
use Rattle.std.proofs.Common.{◌<◌, List, [], ◌∷◌, length, arith}

module _ {A : Type 0} where
  pub some_item : (xs : List A) → 0 < length xs → A
  some_item [] h = absurd (omega arith)
  some_item (x ∷ xs) h = x
