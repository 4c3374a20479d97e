-- The names of a file's tasks and of their upstreams, the faults that show in them, and the edges that they make.
-- restates: Airflow 2, 'Tasks': relationships
use Rattle.std.specs.Prelude.{◌≡◌, ℕ, ◌<◌, Bool, false, not, ◌||◌, List, [], ◌∷◌, length, map, take, slice_index_or, bytes_eq}
use Rattle.std.specs.List.{list_any, position_or_len}
use Rattle.dag_check.specs.Orders.{IsFirst}
use Rattle.graph_file.specs.declared.task_specs.TaskSpec.{TaskSpec}

-- a name is its bytes
abbrev pub Name : Type 0
Name = List ℕ

abbrev pub same : Name → Name → Bool
same = bytes_eq

abbrev pub has : List Name → Name → Bool
has ids q = list_any (same q) ids

-- the names of the tasks, in the order of the file
abbrev pub ids_of : List TaskSpec → List Name
ids_of tasks = map (λ t. t.task_id) tasks

-- the names of their upstreams
abbrev pub named_by : List TaskSpec → List (List Name)
named_by tasks = map (λ t. t.upstream) tasks

-- a list has a name twice
abbrev pub repeats : List Name → Bool
repeats [] = false
repeats (q ∷ qs) = has qs q || repeats qs

-- task i has the name of an earlier task
abbrev pub is_double : List TaskSpec → ℕ → Bool
is_double tasks i = has (take i (ids_of tasks)) (slice_index_or (ids_of tasks) i [])

-- task i has an upstream that is no task
abbrev pub is_unknown : List TaskSpec → ℕ → Bool
is_unknown tasks i = list_any (λ q. not (has (ids_of tasks) q)) (slice_index_or (named_by tasks) i [])

-- task i has an upstream twice
abbrev pub is_double_edge : List TaskSpec → ℕ → Bool
is_double_edge tasks i = repeats (slice_index_or (named_by tasks) i [])

-- nothing below n passes
abbrev pub NoneBelow : (ℕ → Bool) → ℕ → Type 0
NoneBelow p n = (i : ℕ) → i < n → p i ≡ false

-- i is the first below n that passes
abbrev pub FirstBelow : (ℕ → Bool) → ℕ → ℕ → Type 0
FirstBelow p n i = (i < n) × IsFirst p i

-- the file is free of faults but for cycles
pub record IsPlain (tasks : List TaskSpec) : Type 0 where
  pub names : NoneBelow (is_double tasks) (length tasks)
  pub known : NoneBelow (is_unknown tasks) (length tasks)
  pub edges : NoneBelow (is_double_edge tasks) (length tasks)

-- the position of the task of a name
abbrev pub position_of : List Name → Name → ℕ
position_of ids q = position_or_len (same q) ids

-- the positions of each task's upstreams, in the order of the file
abbrev pub rows_of : List TaskSpec → List (List ℕ)
rows_of tasks = map (map (position_of (ids_of tasks))) (named_by tasks)

-- the file as a graph over positions
abbrev pub up_of : List TaskSpec → ℕ → List ℕ
up_of tasks i = slice_index_or (rows_of tasks) i []
