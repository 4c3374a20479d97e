use Rattle.std.proofs.Common.{◌<◌, ◌≤◌, ℕ, length, get_or}
use Rattle.dag_check.proofs.cycles.least_from.Given as goal

abbrev pub invariant-loop-i : goal.invariant-loop-i
invariant-loop-i l = record {
  above : l.from ≤ l.least;
  inside : l.least < length l.walk;
  least : (k : ℕ) → l.from ≤ k → k < l.i → get_or l.walk l.least 0 ≤ get_or l.walk k 0;
}
