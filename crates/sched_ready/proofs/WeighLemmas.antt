-- Weights of graphs, one row after another.
use Rattle.std.proofs.Common.{ℕ, List}
use Rattle.dag_check.specs.Graphs.{Dag, IsDag}
use Rattle.priority_weights.specs.Weights.{AreWeights}
use Rattle.priority_weights.proofs.WeightLemmas.{weight-is}
use Rattle.sched_ready.specs.Held.{WeighTasks}

pub are_weights : (g : Dag) (ws : List ℕ) → IsDag g → AreWeights g ws → WeighTasks g ws
are_weights g ws dag h = record { long = h.long; each = λ k b. weight-is g k _ dag b (h.each k b) }
