use Rattle.std.proofs.Common.{◌<◌, arith}
use Rattle.moment_core.specs.Moments.{seconds_end}
use Rattle.run_planner.proofs.DueLemmas.{none_left, none_ended, none_up_to}
use Rattle.run_planner.proofs.WalkLemmas.{step_taken}
use Rattle.run_planner.proofs.walking.first_due.Goals as goal
use Rattle.run_planner.proofs.walking.first_due.Goals.{else-secs-until-via-then-secs-until+else-is_up_to, else-secs-until-via-else-secs-until}

pub returns-in_err-interval-clause-first : goal.returns-in_err-interval-clause-first
returns-in_err-interval-clause-first c =
    rw (c.from_residual-in_err-interval.ensures, c.in_ok-from.was)
    (none_left _ _ _ _ (omega (arith, c.secs-until.ensures.value, c.secs-until.ensures.bound)) c.in_err-interval.ensures)

pub returns-then-is_up_to-clause-first : goal.returns-then-is_up_to-clause-first
returns-then-is_up_to-clause-first c =
    let range : c.args.now < seconds_end = omega (arith, c.secs-until.ensures.value, c.secs-until.ensures.bound) in
    rw c.in_ok-from.was
    (step_taken _ _ _ _ _ _ range c.in_ok-interval.ensures c.next_start-next.ensures (omega (arith, c.secs-until.ensures.value, c.secs.ensures.value)) cc)

pub returns-else-secs-until-clause-first : goal.returns-else-secs-until-clause-first
returns-else-secs-until-clause-first c =
    let range : c.args.now < seconds_end = omega (arith, c.secs-until.ensures.value, c.secs-until.ensures.bound) in
    rw c.in_ok-from.was
    (elim c.else-secs-until.branch [
      | else-secs-until-via-then-secs-until+else-is_up_to w ↦ none_up_to _ _ _ _ _ range c.in_ok-interval.ensures cc
      | else-secs-until-via-else-secs-until w ↦ none_ended _ _ _ _ _ range c.in_ok-interval.ensures (omega (arith, w.if-secs-until.false, c.secs-until.ensures.value, c.secs.ensures.value))
    ])
