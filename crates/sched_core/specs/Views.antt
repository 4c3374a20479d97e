-- What a schedule shows of its task instances and its pools.
use Rattle.std.specs.Prelude.{ℕ, ◌-ℤ◌, pos, Bool, true, List, [], ◌∷◌, ◌++◌, length, map, filter, flat_map, Option, Some, None}
use Rattle.graph_file.specs.declared.task_specs.TaskSpec.{TaskSpec}
use Rattle.instance_machine.specs.Instances.{InstanceValue}
use Rattle.instance_machine.specs.States.{state_of}
use Rattle.sched_state.specs.Lists.{name_cmp, is_less}
use Rattle.sched_state.specs.declared.runs.Run.{Run}
use Rattle.sched_model.specs.Schedule.{Schedule, Pool}
use Rattle.sched_model.specs.States.{occupied}
use Rattle.sched_model.specs.Clearing.{pairs_of}
use Rattle.sched_model.specs.Tables.{sort_by}
use Rattle.sched_events.specs.Rows.{Row, PoolLine}

-- ---- rows
-- the row of an instance, with its task
abbrev pub row_of : Run → TaskSpec × InstanceValue → Row
row_of r e = record { graph = r.graph; logical = r.logical; kind = r.kind; task = e.0.task_id; state = state_of e.0 e.1; tries = length e.1.tries }

-- a row stands before another, by graph, date and task
abbrev pub row_before : Row → Row → Bool
row_before v w = is_less (name_cmp v.task w.task)

-- the rows of a run's instances, by task
abbrev pub rows_of : Schedule → Run → List Row
rows_of a r = sort_by row_before (map (row_of r) (pairs_of a r))

-- the rows of all instances, by graph, logical date and task
abbrev pub all_rows : Schedule → List Row
all_rows a = flat_map (rows_of a) a.runs

-- the row comes after a task, if there is one
abbrev pub follows : Option (List ℕ) → Row → Bool
follows None w = true
follows (Some id) w = is_less (name_cmp id w.task)

-- what is left to show: of the first of these runs what comes after a task, if there is one, and all of the others
abbrev pub rows_left : Schedule → List Run → Option (List ℕ) → List Row
rows_left a [] last = []
rows_left a (r ∷ rs) last = filter (follows last) (rows_of a r) ++ flat_map (rows_of a) rs

-- ---- pools
-- the row of a pool: its size, what is taken of it, and what is open (Airflow 2, 'Pools')
abbrev pub pool_row : Schedule → Pool → PoolLine
pool_row a q = record { name = q.name; size = q.size; occupied = occupied a q.name; open_slots = pos q.size -ℤ pos (occupied a q.name) }

-- the rows of all pools, by name
-- restates: Airflow 2, 'Pools'
abbrev pub pool_rows : Schedule → List PoolLine
pool_rows a = map (pool_row a) a.pools
