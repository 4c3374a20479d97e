use Rattle.std.proofs.Common.{◌≤◌}
use Rattle.worked_values.proofs.rows.Row.of.Given as goal

abbrev pub invariant-loop-search : goal.invariant-loop-search
invariant-loop-search l = l.ticks ≤ l._search
