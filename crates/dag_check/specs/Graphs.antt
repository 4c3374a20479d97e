-- The graph of a file: its tasks and their edges by place.
use Rattle.std.specs.Prelude.{◌≡◌, ℕ, zero, suc, if◌then◌else◌, ◌<◌, ◌≤◌, Bool, true, false, List, [], ◌∷◌, ◌++◌, length, map, slice_index_or, None}
use Rattle.graph_file.specs.TaskLists.{task_limit}
use Rattle.graph_file.specs.declared.task_specs.TaskSpec.{TaskSpec}
use Rattle.graph_file.specs.declared.graph_specs.GraphSpec.{GraphSpec}
use Rattle.graph_file.specs.declared.operators.Operator.TheVariants.{Noop}
use Rattle.graph_file.specs.declared.rules.Rule.TheVariants.{AllSuccess}
use Rattle.graph_file.specs.declared.rules.WeightRule.TheVariants.{Downstream}
use Rattle.dag_check.specs.Orders.{is_in, place_in, places_of, IsPlacement, IsAcyclic}
use Rattle.dag_check.specs.Names.{Name, ids_of, up_of, IsPlain}

-- a graph: what its file says, its tasks by place, and the places of each one's upstreams in the order of the file
pub record Dag : Type 0 where
  pub spec : GraphSpec
  pub tasks : List TaskSpec
  pub upstreams : List (List ℕ)

-- what stands for the task of a position or place that has none
abbrev pub no_task : TaskSpec
no_task = record {
  task_id = [];
  action = record { operator = Noop; argv = []; timeout = None };
  upstream = [];
  trigger_rule = AllSuccess;
  retries = 0;
  retry_delay = 0;
  pool = [];
  pool_slots = 0;
  priority_weight = 0;
  weight_rule = Downstream;
  depends_on_past = false;
}

-- the task at a position of the file, and its name
abbrev pub task_at : List TaskSpec → ℕ → TaskSpec
task_at tasks p = slice_index_or tasks p no_task

abbrev pub id_at : List TaskSpec → ℕ → Name
id_at tasks p = slice_index_or (ids_of tasks) p []

-- the task of a place
abbrev pub task_of : Dag → ℕ → TaskSpec
task_of g k = slice_index_or g.tasks k no_task

-- the places of a place's upstreams
abbrev pub ups : Dag → ℕ → List ℕ
ups g k = slice_index_or g.upstreams k []

-- the numbers below n that pass, rising
abbrev pub passing : (ℕ → Bool) → ℕ → List ℕ
passing p zero = []
passing p (suc n) = passing p n ++ (if p n then n ∷ [] else [])

-- the places below n whose upstream a place is, rising
abbrev pub downs_in : (ℕ → List ℕ) → ℕ → ℕ → List ℕ
downs_in up n k = passing (λ i. is_in (up i) k) n

-- the places whose upstream a place is
abbrev pub downs : Dag → ℕ → List ℕ
downs g k = downs_in (ups g) (length g.tasks) k

-- the upstreams, by place, of positions in an order
abbrev pub placed_rows : (ℕ → List ℕ) → List ℕ → List (List ℕ)
placed_rows up order = map (λ p. map (place_in order) (up p)) order

-- the graph whose positions stand in an order
abbrev pub dag_in : GraphSpec → List ℕ → Dag
dag_in spec order = record {
  spec = spec;
  tasks = map (task_at spec.tasks) order;
  upstreams = placed_rows (up_of spec.tasks) order;
}

-- the positions of a file by place: at each place the first in the file whose upstreams all stand before
abbrev pub places : GraphSpec → List ℕ
places spec = places_of (up_of spec.tasks) (length spec.tasks) (length spec.tasks)

-- the graph of a file without faults
abbrev pub dag_of : GraphSpec → Dag
dag_of spec = dag_in spec (places spec)

-- the file is free of faults, and this is its graph
pub record IsGraphOf (spec : GraphSpec) (g : Dag) : Type 0 where
  pub plain : IsPlain spec.tasks
  pub acyclic : IsAcyclic (up_of spec.tasks) (length spec.tasks)
  pub placed : IsPlacement (up_of spec.tasks) (length spec.tasks) (places spec)
  pub is : g ≡ dag_of spec

-- what every graph meets: a row of upstreams for each place, and each edge leads down
pub record IsDag (g : Dag) : Type 0 where
  pub rows : length g.upstreams ≡ length g.tasks
  pub down : (j y : ℕ) → is_in (ups g j) y ≡ true → y < j
  pub few : length g.tasks ≤ task_limit
