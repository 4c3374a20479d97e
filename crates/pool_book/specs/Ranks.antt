-- The order in which what is ready is handed out.
use Rattle.std.specs.Prelude.{ℕ, List}
use Rattle.std.specs.Ordering.{nat_cmp, ordering_then}
use Rattle.std.specs.declared.cmp.Ordering.{Ordering}
use Rattle.pool_book.specs.Pools.{name_cmp}

-- what a task instance ranks by
-- restates: Airflow 2, 'Priority Weights'; what comes after the weight is this project's own profile
pub record RankParts : Type 0 where
  pub weight : ℕ
  pub logical : ℕ
  pub graph : List ℕ
  pub task : List ℕ

-- the greater weight is first (Airflow 2, 'Priority Weights'); what comes after it is this project's own profile: the earlier logical date,
-- then the name of the graph, then that of the task
abbrev pub rank_cmp : RankParts → RankParts → Ordering
rank_cmp x y = ordering_then (nat_cmp y.weight x.weight) (ordering_then (nat_cmp x.logical y.logical) (ordering_then (name_cmp x.graph y.graph) (name_cmp x.task y.task)))
