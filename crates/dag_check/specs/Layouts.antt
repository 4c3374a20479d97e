-- The fields of a graph, and how they fit each other.
use Rattle.std.specs.Prelude.{◌≡◌, ℕ, ◌<◌, List, length, map}
use Rattle.dag_check.specs.declared.layouts.Layout.{Layout}
use Rattle.dag_check.specs.declared.graphs.Graph.TheInside.{Inside}
use Rattle.dag_check.specs.Orders.{edges_of, IsPlacement}
use Rattle.dag_check.specs.Names.{up_of, IsPlain}
use Rattle.dag_check.specs.Graphs.{Dag, task_at, placed_rows, downs_in}

-- an order of places, and the edges by place
pub record IsLayout (up : ℕ → List ℕ) (n : ℕ) (l : Layout) : Type 0 where
  pub placement : IsPlacement up n l.order.items
  pub ups_are : map (λ r. r.items) l.upstreams.items ≡ placed_rows up l.order.items
  pub long : length l.upstreams.items ≡ n
  pub downs_long : length l.downstreams.items ≡ n
  pub downs_are : (j : ℕ) → j < n → edges_of l.downstreams.items j ≡ downs_in (edges_of l.upstreams.items) n j

-- the graph that a file and its layout are
abbrev pub dag_inside : Inside → Dag
dag_inside a = record {
  spec = a.spec;
  tasks = map (task_at a.spec.tasks) a.layout.order.items;
  upstreams = map (λ v. v.items) a.layout.upstreams.items;
}

-- the file has no fault, and the layout is its own
pub record IsSound (a : Inside) : Type 0 where
  pub plain : IsPlain a.spec.tasks
  pub layout : IsLayout (up_of a.spec.tasks) (length a.spec.tasks) a.layout
