-- What contracts see of a list of which the values are kept, or none of them.
use Rattle.std.specs.Prelude.{ℕ, List, []}
use Rattle.kept.specs.declared.lists.Keep.{Keep}
use Rattle.kept.specs.declared.lists.Keep.TheVariants as keeps

-- all items that were put, how many more there is room for, and whether their values are kept
pub record KeptValue (T : Type 0) : Type 0 where
  pub items : List T
  pub room : ℕ
  pub keep : Keep

-- of items those whose values are kept
abbrev pub kept : {T : Type 0} → Keep → List T → List T
kept keeps.All items = items
kept keeps.Nothing items = []

-- the values that a list keeps
abbrev pub values_of : {T : Type 0} → KeptValue T → List T
values_of list = kept list.keep list.items
