-- The fault of a table: the first class that stands in it, at its first place.
use Rattle.std.specs.Prelude.{ℕ, ◌==◌, ◌||◌, nat_lt, [], ◌∷◌, map, length, sum_by, position, Option, option_map}
use Rattle.toml.specs.Data.{Data, Members}
use Rattle.graph_file.specs.Lists.{when, first_some}
use Rattle.graph_file.specs.Keys.{top_keys}
use Rattle.graph_file.specs.Tables.{items_of, tasks_of, table_of}
use Rattle.graph_file.specs.TaskLists.{task_limit, upstream_limit}
use Rattle.graph_file.specs.Classes.{classes, has_fault, task_has_fault}
use Rattle.graph_file.specs.Schedules.{cron_fault}
use Rattle.graph_file.specs.declared.keys.Key.TheVariants as key
use Rattle.graph_file.specs.declared.classes.Class.{Class}
use Rattle.graph_file.specs.declared.classes.Class.TheVariants as class
use Rattle.graph_file.specs.declared.faults.Place.{Place}
use Rattle.graph_file.specs.declared.faults.Place.TheVariants.{Top, Task}
use Rattle.graph_file.specs.declared.faults.GraphFault.{GraphFault}
use Rattle.graph_file.specs.declared.faults.GraphFault.TheVariants.{UnknownKey, WrongType, MissingKey, BadName, BadValue, Cron, NoTask, TooMany}

-- how many upstream names a task has
abbrev pub upstream_count : Data → ℕ
upstream_count d = length (items_of key.Upstream (table_of d))

-- the tasks whose places a fault can tell. No text that is short enough to be read has more
abbrev pub place_limit : ℕ
place_limit = 4294967295

-- the first place of a fault of the class: the top, then the tasks in the order of the file
abbrev pub first_place : Class → Members → Option Place
first_place c t = first_some (
    when (has_fault c top_keys t) Top
    ∷ option_map Task (position (task_has_fault c) (tasks_of t))
    ∷ [])

-- the fault of a class at a place
abbrev pub fault_at : Class → Place → GraphFault
fault_at class.UnknownKey p = UnknownKey p
fault_at class.WrongType p = WrongType p
fault_at class.MissingKey p = MissingKey p
fault_at class.BadName p = BadName p
fault_at class.BadValue p = BadValue p

-- the fault of a class in the table
abbrev pub fault_in : Members → Class → Option GraphFault
fault_in t c = option_map (fault_at c) (first_place c t)

-- the first fault of a table
abbrev pub fault_of : Members → Option GraphFault
fault_of t = first_some (
    when (nat_lt place_limit (length (tasks_of t))) TooMany
    ∷ first_some (map (fault_in t) classes)
    ∷ option_map Cron (cron_fault top_keys t)
    ∷ when (length (tasks_of t) == 0) NoTask
    ∷ when (nat_lt task_limit (length (tasks_of t)) || nat_lt upstream_limit (sum_by upstream_count (tasks_of t))) TooMany
    ∷ [])
