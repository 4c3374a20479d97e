-- Effective weights, by Airflow 2's page 'Priority Weights'.
use Rattle.std.specs.Prelude.{◌≡◌, ℕ, ◌+◌, ◌<◌, false, List, length, sum_by, slice_index}
use Rattle.graph_file.specs.declared.rules.WeightRule.{WeightRule}
use Rattle.graph_file.specs.declared.rules.WeightRule.TheVariants as rule
use Rattle.dag_check.specs.declared.graphs.Direction.{Direction}
use Rattle.dag_check.specs.declared.graphs.Direction.TheVariants as to
use Rattle.dag_check.specs.Orders.{is_in}
use Rattle.dag_check.specs.Graphs.{Dag, task_of}
use Rattle.dag_check.specs.Reach.{IsReached, reach_of}

-- the own weight of a place
abbrev pub own_weight : Dag → ℕ → ℕ
own_weight g k = (task_of g k).priority_weight

-- the sum of the weights over a place and what it reaches: the list has each of these once, and not the place
pub record IsSum (g : Dag) (d : Direction) (k w : ℕ) : Type 0 where
  pub places : List ℕ
  pub reached : IsReached g d k places
  pub other : is_in places k ≡ false
  pub sum : w ≡ own_weight g k + sum_by (own_weight g) places

-- the effective weight by a rule
abbrev pub IsWeightBy : WeightRule → Dag → ℕ → ℕ → Type 0
IsWeightBy rule.Absolute g k w = w ≡ own_weight g k
IsWeightBy rule.Downstream g k w = IsSum g to.Downstream k w
IsWeightBy rule.Upstream g k w = IsSum g to.Upstream k w

-- the effective weight of a place, by the rule of its task
abbrev pub IsWeight : Dag → ℕ → ℕ → Type 0
IsWeight g k w = IsWeightBy (task_of g k).weight_rule g k w

-- the effective weight as a function
abbrev pub weight_by : WeightRule → Dag → ℕ → ℕ
weight_by rule.Absolute g k = own_weight g k
weight_by rule.Downstream g k = own_weight g k + sum_by (own_weight g) (reach_of g to.Downstream k)
weight_by rule.Upstream g k = own_weight g k + sum_by (own_weight g) (reach_of g to.Upstream k)

-- the effective weight of a place
abbrev pub effective_weight : Dag → ℕ → ℕ
effective_weight g k = weight_by (task_of g k).weight_rule g k

-- the effective weights of all places
pub record AreWeights (g : Dag) (weights : List ℕ) : Type 0 where
  pub long : length weights ≡ length g.tasks
  pub each : (k : ℕ) → k < length g.tasks → IsWeight g k (slice_index weights k)
