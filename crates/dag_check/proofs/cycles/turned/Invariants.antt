use Rattle.std.proofs.Common.{◌≡◌, ◌<◌, ◌≤◌, ◌+◌, ◌-◌, ℕ, length, get_or, vec_len}
use Rattle.dag_check.proofs.cycles.turned.Given as goal

abbrev pub invariant-loop-k : goal.invariant-loop-k
invariant-loop-k l = record {
  long : vec_len l.cycle ≡ l.k;
  before : (j : ℕ) → j < l.k → l.from + j ≤ l.start → get_or l.cycle.items j 0 ≡ get_or l.walk (l.start - j) 0;
  after : (j : ℕ) → j < l.k → l.start < l.from + j → get_or l.cycle.items j 0 ≡ get_or l.walk (l.start + (length l.walk - l.from) - j) 0;
}
