use Rattle.std.proofs.Common.{arith}
use Rattle.run_planner.proofs.SpanLemmas.{started, once_started, once_before}
use Rattle.run_planner.proofs.backfills.span_start.Goals as goal

pub returns-then-secs : goal.returns-then-secs
returns-then-secs c to t =
    rw c.in-Once.is (once_started _ _ _ _ (omega (arith, c.secs.ensures.value, c.secs-in-Once.ensures.value)))

pub returns-else-secs : goal.returns-else-secs
returns-else-secs c to t =
    rw c.in-Once.is (once_before _ _ _ _ (omega (arith, c.secs.ensures.value, c.secs-in-Once.ensures.value)))

pub returns-in_default : goal.returns-in_default
returns-in_default c to t = started _ _ _ _ _ c.in_default.not-Once
