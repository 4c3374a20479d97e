use Rattle.std.proofs.Common.{arith}
use Rattle.cron_timetable.proofs.TickLemmas.{NoneBetween-before_first}
use Rattle.cron_timetable.proofs.expressions.Cron.search.Goals as goal

pub loop-secs-init : goal.loop-secs-init
loop-secs-init c = record {
  whole = omega arith;
  from = omega (arith, c.secs.ensures.value);
  none = NoneBetween-before_first _ _ _ (omega arith) (omega (arith, c.secs.ensures.value));
  counted = omega arith;
}
