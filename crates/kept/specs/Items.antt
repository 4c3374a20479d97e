-- What a list holds.
use Rattle.std.specs.Prelude.{ℕ, List, map, ◌-◌, vec_len, vec_capacity}
use Rattle.kept.specs.declared.lists.Keep.{Keep}
use Rattle.kept.specs.declared.lists.Keep.TheVariants as keeps
use Rattle.kept.specs.declared.lists.Items.{Items}
use Rattle.kept.specs.declared.lists.Items.TheVariants as held

-- all items that were put
abbrev pub items_in : {T : Type 0} → Items T → List T
items_in (held.Values values) = values.items
items_in (held.Seen seen) = map (λ s. s.value) seen.items

-- how many more there is room for
abbrev pub room_in : {T : Type 0} → Items T → ℕ
room_in (held.Values values) = vec_capacity values - vec_len values
room_in (held.Seen seen) = vec_capacity seen - vec_len seen

-- whether the values are kept
abbrev pub keep_in : {T : Type 0} → Items T → Keep
keep_in (held.Values values) = keeps.All
keep_in (held.Seen seen) = keeps.Nothing
