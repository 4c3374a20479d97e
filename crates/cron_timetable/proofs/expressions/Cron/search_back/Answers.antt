use Rattle.std.proofs.Common.{◌≡◌, ◌-◌, ◌+◌, ℕ, arith, true, subst, sym}
use Rattle.cron_timetable.specs.Fields.{fires}
use Rattle.cron_timetable.proofs.TickLemmas.{NoneBetween-join, NoneBetween-after_first}
use Rattle.cron_timetable.proofs.expressions.Cron.search_back.Goals as goal

pub returns-then-before-end : goal.returns-then-before-end
returns-then-before-end c =
    let m = c.at.result in
    let here : m ≡ c.loop-end.end - 60 = c.at.ensures in
    let on : fires c.args.self.now (c.loop-end.end - 60) ≡ true = c.jump_back-before.ensures.stays c.if-before-end.true in
    record {
      below = omega arith;
      tick = (omega arith, subst (λ (n : ℕ). fires c.args.self.now n ≡ true) (sym here) on);
      greatest = NoneBetween-join _ (m + 1) c.loop-end.end _ (NoneBetween-after_first _ m _ (omega arith) (omega arith)) c.loop-end.invariant.none;
    }
