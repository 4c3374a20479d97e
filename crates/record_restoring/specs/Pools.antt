-- The pools that rows say, and what tries without an end take of them.
use Rattle.std.specs.Prelude.{ℕ, List, [], ◌∷◌, map, flat_map}
use Rattle.std.specs.List.{zip}
use Rattle.pool_book.specs.Pools.{Entries, PoolUse, with_pool, take_counted}
use Rattle.record_rows.specs.Rows.{PoolRow}
use Rattle.sched_state.specs.declared.graphs.LoadedGraph.{LoadedGraph}
use Rattle.sched_state.specs.declared.runs.Run.{Run}
use Rattle.sched_model.specs.Schedule.{dag_among}
use Rattle.sched_model.specs.States.{OpenTry, open_of}
use Rattle.record_rules.specs.Numbers.{natural}

-- the pool of a row, of which nothing is taken
abbrev pub vacant_pool : PoolRow → List ℕ × PoolUse
vacant_pool p = (p.name, record { size = natural p.size; occupied = 0 })

abbrev pub vacant_pools : List PoolRow → Entries
vacant_pools ps = map vacant_pool ps

-- the tries without an end of a run and of runs, each with its graph and its task
abbrev pub open_in : List LoadedGraph → Run → List OpenTry
open_in gs r = flat_map (open_of r.graph) (zip (dag_among gs r.graph).tasks r.instances)

abbrev pub open_among : List LoadedGraph → List Run → List OpenTry
open_among gs rs = flat_map (open_in gs) rs

-- the pools once tries have taken their slots, one after another
abbrev pub taken_by : List OpenTry → Entries → Entries
taken_by [] es = es
taken_by (e ∷ ts) es = taken_by ts (with_pool e.pool (take_counted e.one.slots) es)
