use Rattle.std.proofs.Common.{ap, sym, arith}
use Rattle.run_planner.specs.Due.{last_alone}
use Rattle.run_planner.proofs.DueLemmas.{none_before}
use Rattle.run_planner.proofs.LatestLemmas.{latest_last, never_last}
use Rattle.run_planner.proofs.without_catchup.latest_due.Goals as goal

pub returns-then-secs : goal.returns-then-secs
returns-then-secs c =
    sym
    (ap last_alone
    (none_before c.args.graph.now.schedule c.args.graph.now.start_date c.args.now c.args.graph.now.end_date (omega (arith, c.secs.ensures.value, c.secs.ensures.bound))
    (omega (arith, c.if-secs.true, c.secs.ensures.value, c.secs-2.ensures.value))))

pub returns-in-Cron : goal.returns-in-Cron
returns-in-Cron c = rw c.in-Cron.is (latest_last _ _ _ _ _ (omega (arith, c.secs.ensures.value, c.secs.ensures.bound)) c.latest_interval.ensures)

pub returns-in-Trigger : goal.returns-in-Trigger
returns-in-Trigger c = rw c.in-Trigger.is (latest_last _ _ _ _ _ (omega (arith, c.secs.ensures.value, c.secs.ensures.bound)) c.latest_tick.ensures)

pub returns-in-Never : goal.returns-in-Never
returns-in-Never c = rw c.in-Never.is (never_last _ _ _)
