use Rattle.std.proofs.Common.{◌≡◌, ◌<◌, ℕ, vec_len, get_or}
use Rattle.priority_weights.specs.Weights.{IsWeight}
use Rattle.priority_weights.proofs.weights.effective.Given as goal

abbrev pub invariant-loop-place : goal.invariant-loop-place
invariant-loop-place l = record {
  long : vec_len l.weights ≡ l.place;
  each : (k : ℕ) → k < l.place → IsWeight l.graph k (get_or l.weights.items k 0);
}
