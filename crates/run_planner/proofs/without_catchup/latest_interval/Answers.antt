use Rattle.std.proofs.Common.{arith}
use Rattle.run_planner.proofs.LatestLemmas.{none_from, latest_from, latest_too_early}
use Rattle.run_planner.proofs.without_catchup.latest_interval.Goals as goal

pub returns-in_err-latest : goal.returns-in_err-latest
returns-in_err-latest c = rw c.from_residual.ensures (none_from _ _ _ _ c.in_err-latest.ensures)

pub returns-then-secs : goal.returns-then-secs
returns-then-secs c = latest_from _ _ _ _ _ c.in_ok-latest.ensures (omega (arith, c.secs.ensures.value, c.secs-2.ensures.value))

pub returns-else-secs : goal.returns-else-secs
returns-else-secs c = latest_too_early _ _ _ _ _ c.in_ok-latest.ensures (omega (arith, c.secs.ensures.value, c.secs-2.ensures.value))
