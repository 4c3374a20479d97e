-- A table of TOML as lists, and the values at its keys.
-- restates: TOML 1.0
use Rattle.std.specs.Prelude.{ℕ, Bool, List, [], ◌∷◌, Option, option_and_then, unwrap_or}
use Rattle.std.specs.List.{list_all, list_any}
use Rattle.toml.specs.Data.{Data, Items, no_items, item, Members, no_members, member, get_member, as_array, as_table}
use Rattle.graph_file.specs.Keys.{row_of}
use Rattle.graph_file.specs.declared.keys.Key.{Key}
use Rattle.graph_file.specs.declared.keys.Key.TheVariants as key

-- the items as a list
abbrev pub list_of : Items → List Data
list_of no_items = []
list_of (item d ds) = d ∷ list_of ds

-- the test holds of each item, or of one
abbrev pub each_item : (Data → Bool) → Items → Bool
each_item test ds = list_all test (list_of ds)

abbrev pub some_item : (Data → Bool) → Items → Bool
some_item test ds = list_any test (list_of ds)

-- the keys that the table has
abbrev pub keys_in : Members → List (List ℕ)
keys_in no_members = []
keys_in (member k d ms) = k ∷ keys_in ms

-- what the table has at the key
abbrev pub member_at : Key → Members → Option Data
member_at k t = get_member (row_of k).name t

-- the items of the array at the key; where there is no array there are none
abbrev pub items_of : Key → Members → List Data
items_of k t = list_of (unwrap_or (option_and_then as_array (member_at k t)) no_items)

-- the tasks, in the order of the file
abbrev pub tasks_of : Members → List Data
tasks_of t = items_of key.Task t

-- the table of a task
abbrev pub table_of : Data → Members
table_of d = unwrap_or (as_table d) no_members
