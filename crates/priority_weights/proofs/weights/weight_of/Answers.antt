use Rattle.std.proofs.Common.{◌≡◌, ◌∙◌, ◌+◌, ℕ, List, length, subst, sym, ap, arith, sum_by}
use Rattle.graph_file.specs.declared.rules.WeightRule.{WeightRule}
use Rattle.graph_file.specs.declared.task_specs.TaskSpec.{TaskSpec}
use Rattle.dag_check.specs.declared.graphs.Direction.{Direction}
use Rattle.dag_check.specs.declared.graphs.Direction.TheVariants as to
use Rattle.dag_check.specs.Orders.{is_in}
use Rattle.dag_check.specs.Graphs.{Dag, IsDag}
use Rattle.dag_check.specs.Reach.{IsReached}
use Rattle.dag_check.proofs.GraphLemmas.{reached-few, reached-below, reached-other}
use Rattle.priority_weights.specs.Weights.{own_weight, IsWeightBy, IsSum}
use Rattle.priority_weights.proofs.weights.weight_of.Goals as goal
use Rattle.priority_weights.proofs.weights.weight_of.Goals.{in-Downstream, in-Upstream}

pub total-requires-clause-places_in : goal.total-requires-clause-places_in
total-requires-clause-places_in c y there =
    reached-below c.args.graph.now c.match-task.direction c.args.place c.in_ok-places.places.items c.in_ok-places.ensures y (ap (λ (ys : List ℕ). is_in ys y) (sym c.deref.ensures.value) ∙ there)

pub total-requires-clause-few : goal.total-requires-clause-few
total-requires-clause-few c =
    let few = reached-few c.args.graph.now c.match-task.direction c.args.place c.in_ok-places.places.items c.in_ok-places.ensures in
    let all = c.len-count.ensures.dag.few in
    let e = ap (λ (ys : List ℕ). length ys) c.deref.ensures.value in
    omega arith

sum-of : (g : Dag) (d e : Direction) (x w : ℕ) (places places' : List ℕ) → IsDag g → IsReached g d x places → d ≡ e → places' ≡ places → w ≡ own_weight g x + sum_by (own_weight g) places' → IsSum g e x w
sum-of g d e x w places places' dag h same are sum = record {
  places = places;
  reached = subst (λ (d : Direction). IsReached g d x places) same h;
  other = reached-other g d x places dag h;
  sum = sum ∙ ap (λ (ys : List ℕ). own_weight g x + sum_by (own_weight g) ys) are;
}

pub returns : goal.returns
returns c =
    elim c.match-task.branch [
      | in-Downstream w ↦
          subst (λ (r : WeightRule). IsWeightBy r c.args.graph.now c.args.place c.total.result) (sym w.in-Downstream.is ∙ ap (λ (t : TaskSpec). t.weight_rule) c.task.ensures)
          (sum-of c.args.graph.now c.match-task.direction to.Downstream c.args.place c.total.result c.in_ok-places.places.items c.deref.result.now c.len-count.ensures.dag c.in_ok-places.ensures w.direction-is c.deref.ensures.value c.total.ensures)
      | in-Upstream w ↦
          subst (λ (r : WeightRule). IsWeightBy r c.args.graph.now c.args.place c.total.result) (sym w.in-Upstream.is ∙ ap (λ (t : TaskSpec). t.weight_rule) c.task.ensures)
          (sum-of c.args.graph.now c.match-task.direction to.Upstream c.args.place c.total.result c.in_ok-places.places.items c.deref.result.now c.len-count.ensures.dag c.in_ok-places.ensures w.direction-is c.deref.ensures.value c.total.ensures)
    ]
