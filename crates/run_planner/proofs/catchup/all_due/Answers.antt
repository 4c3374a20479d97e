use Rattle.std.proofs.Common.{length, ap, arith}
use Rattle.run_planner.proofs.PassedLemmas.{wanted_from}
use Rattle.run_planner.proofs.catchup.all_due.Goals as goal

pub walk-init : goal.walk-init
walk-init c = record {
  split = rw c.new-intervals.ensures.items (wanted_from _ _ _ _ _ _ c.cursor_for.ensures);
  few = omega (arith, ap length c.new-intervals.ensures.items);
}
