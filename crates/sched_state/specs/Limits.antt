-- The most that a schedule may hold: this project's own profile.
use Rattle.std.specs.Prelude.{ℕ, Bool, ◌&&◌, nat_le, Option}
use Rattle.graph_file.specs.Lists.{when}
use Rattle.graph_file.specs.TaskLists.{task_limit, upstream_limit}
use Rattle.sched_state.specs.declared.bounds.Limits.TheInside.{Inside}

-- a bound for each kind of thing: tasks and edges are those of one graph
pub record Bounds : Type 0 where
  pub graphs : ℕ
  pub tasks : ℕ
  pub edges : ℕ
  pub pools : ℕ
  pub runs : ℕ
  pub lanes : ℕ

-- those of a `Limits`
abbrev pub bounds_inside : Inside → Bounds
bounds_inside l = record { graphs = l.graphs; tasks = l.tasks; edges = l.edges; pools = l.pools; runs = l.runs; lanes = l.lanes }

-- the greatest bounds that may be set
abbrev pub ceilings : Bounds
ceilings = record { graphs = 256; tasks = task_limit; edges = upstream_limit; pools = 64; runs = 1000000; lanes = 64 }

-- no bound lies past its ceiling, and there is room for a pool
abbrev pub is_allowed : Bounds → Bool
is_allowed b =
    nat_le b.graphs ceilings.graphs && nat_le b.tasks ceilings.tasks && nat_le b.edges ceilings.edges
    && nat_le 1 b.pools && nat_le b.pools ceilings.pools && nat_le b.runs ceilings.runs && nat_le b.lanes ceilings.lanes

-- these bounds, where they may be set
abbrev pub limits_of : ℕ → ℕ → ℕ → ℕ → ℕ → ℕ → Option Bounds
limits_of graphs tasks edges pools runs lanes =
    let b : Bounds = record { graphs = graphs; tasks = tasks; edges = edges; pools = pools; runs = runs; lanes = lanes } in when (is_allowed b) b
