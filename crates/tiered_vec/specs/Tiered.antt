-- A list, and room for more.
use Rattle.std.specs.Prelude.{ℕ, List}

-- the items in their order, and for how many more there is memory
pub record Tiered (X : Type 0) : Type 0 where
  pub items : List X
  pub room : ℕ
