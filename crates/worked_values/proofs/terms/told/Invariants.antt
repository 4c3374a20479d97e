use Rattle.std.proofs.Common.{◌≤◌}
use Rattle.trigger_rules.specs.Counts.{total}
use Rattle.worked_values.proofs.terms.told.Given as goal

abbrev pub invariant-loop-digit : goal.invariant-loop-digit
invariant-loop-digit l = total l.counts ≤ l.digit
