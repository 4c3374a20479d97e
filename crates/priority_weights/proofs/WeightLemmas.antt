-- Two readings of a place's weight are one.
use Rattle.std.proofs.Common.{◌≡◌, ◌∙◌, ◌+◌, ◌<◌, ℕ, List, length, sum_by, ap, sym}
use Rattle.graph_file.specs.declared.rules.WeightRule.{WeightRule}
use Rattle.graph_file.specs.declared.rules.WeightRule.TheVariants as rule
use Rattle.dag_check.specs.declared.graphs.Direction.{Direction}
use Rattle.dag_check.specs.Graphs.{Dag, IsDag, task_of}
use Rattle.dag_check.specs.Reach.{reach_of}
use Rattle.dag_check.proofs.GraphLemmas.{reached-one}
use Rattle.dag_check.proofs.WayLemmas.{reached-is}
use Rattle.priority_weights.specs.Weights.{own_weight, IsSum, IsWeightBy, IsWeight, weight_by, effective_weight}

one-sum : (g : Dag) (d : Direction) (k v w : ℕ) → IsSum g d k v → IsSum g d k w → v ≡ w
one-sum g d k v w a b =
    a.sum ∙ (ap (λ (ps : List ℕ). own_weight g k + sum_by (own_weight g) ps) (reached-one g d k a.places b.places a.reached b.reached) ∙ sym b.sum)

one-by : (r : WeightRule) (g : Dag) (k v w : ℕ) → IsWeightBy r g k v → IsWeightBy r g k w → v ≡ w
one-by rule.Absolute g k v w a b = a ∙ sym b
one-by rule.Downstream g k v w a b = one-sum g _ k v w a b
one-by rule.Upstream g k v w a b = one-sum g _ k v w a b

pub one-weight : (g : Dag) (k v w : ℕ) → IsWeight g k v → IsWeight g k w → v ≡ w
one-weight g k v w a b = one-by (task_of g k).weight_rule g k v w a b

sum-is : (g : Dag) (d : Direction) (k w : ℕ) → IsDag g → k < length g.tasks → IsSum g d k w → w ≡ own_weight g k + sum_by (own_weight g) (reach_of g d k)
sum-is g d k w dag below a = a.sum ∙ ap (λ (ps : List ℕ). own_weight g k + sum_by (own_weight g) ps) (reached-is g d k a.places dag below a.reached)

by-is : (r : WeightRule) (g : Dag) (k w : ℕ) → IsDag g → k < length g.tasks → IsWeightBy r g k w → w ≡ weight_by r g k
by-is rule.Absolute g k w dag below a = a
by-is rule.Downstream g k w dag below a = sum-is g _ k w dag below a
by-is rule.Upstream g k w dag below a = sum-is g _ k w dag below a

pub weight-is : (g : Dag) (k w : ℕ) → IsDag g → k < length g.tasks → IsWeight g k w → w ≡ effective_weight g k
weight-is g k w dag below a = by-is (task_of g k).weight_rule g k w dag below a
