use Rattle.std.proofs.Common.{◌≡◌, ◌+◌, ◌*◌, ◌≤◌, take, sum_by}
use Rattle.priority_weights.specs.Weights.{own_weight}
use Rattle.priority_weights.proofs.weights.total.Given as goal

abbrev pub invariant-loop-other : goal.invariant-loop-other
invariant-loop-other l = record {
  sum : l.total ≡ own_weight l.graph l.place + sum_by (own_weight l.graph) (take l.other-index l.places);
  small : l.total ≤ 1000000 * (l.other-index + 1);
}
