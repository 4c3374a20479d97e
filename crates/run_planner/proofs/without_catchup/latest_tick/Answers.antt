use Rattle.std.proofs.Common.{arith}
use Rattle.run_planner.proofs.LatestLemmas.{tick_latest}
use Rattle.run_planner.proofs.without_catchup.latest_tick.Goals as goal

pub returns-then-secs : goal.returns-then-secs
returns-then-secs c =
    rw c.empty_at.ensures
    (tick_latest _ _ _ _ _ _ c.latest_start.ensures c.in_ok-tick.ensures (omega (arith, c.secs.ensures.value, c.secs-2.ensures.value)))
