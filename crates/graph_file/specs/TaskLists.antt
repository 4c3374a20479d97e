-- How many tasks a graph has, and how many upstream names these have in all: this project's own profile.
use Rattle.std.specs.Prelude.{ℕ, ◌≤◌, List, length, sum_by}
use Rattle.graph_file.specs.declared.task_specs.TaskSpec.{TaskSpec}

-- the tasks that a graph may have
abbrev pub task_limit : ℕ
task_limit = 256

-- the upstream names that the tasks of a graph may have in all
abbrev pub upstream_limit : ℕ
upstream_limit = 4096

-- one task or more, and no more tasks and upstream names than a graph may have
pub record IsTaskList (ts : List TaskSpec) : Type 0 where
  pub some : 1 ≤ length ts
  pub few : length ts ≤ task_limit
  pub upstreams : sum_by (λ (t : TaskSpec). length t.upstream) ts ≤ upstream_limit
