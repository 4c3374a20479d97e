-- Which graphs have room for one more try.
use Rattle.std.specs.Prelude.{ℕ, Bool, false, List, get_or}

-- what was last said of this number; where nothing was said there is no room
-- of the number of a graph: whether fewer of its tries are active than may be
-- restates: Airflow 2, `max_active_tasks`
abbrev pub has_room : List Bool → ℕ → Bool
has_room rooms n = get_or rooms n false
