-- What a list ends as, where one of its items is lent to be changed.
use Rattle.std.specs.Prelude.{ℕ, List, slice_set}
use Rattle.std.specs.Borrow.{Lends, Fml, RattleType, MutBor}
use Rattle.graph_file.specs.contracts.sequences.Sequence.{the_row}

-- once the borrow ends, the item at the place is the last value behind it
abbrev pub lends_item : (T : RattleType) → MutBor (List T.Denot) → ℕ → MutBor T.Denot → Fml
lends_item T s place r = Lends (the_row T) T s r (slice_set s.now place)
