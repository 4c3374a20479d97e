-- Places in lists.
use Rattle.std.specs.Prelude.{◌≡◌, ℕ, ◌<◌, Bool, true, List, length, Some, slice_get}

-- the element at a place passes
pub record StandsAt {X : Type 0} (p : X → Bool) (xs : List X) (place : ℕ) : Type 0 where
  pub within : place < length xs
  pub of : X
  pub there : slice_get xs place ≡ Some of
  pub passes : p of ≡ true
