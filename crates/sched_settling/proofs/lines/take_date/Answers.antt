use Rattle.std.proofs.Common.{refl}
use Rattle.sched_settling.proofs.LineLemmas.{next_touched, next_kept, rest_rise}
use Rattle.sched_settling.proofs.lines.take_date.Goals as goal

pub returns-in-Some-clause-next : goal.returns-in-Some-clause-next
returns-in-Some-clause-next c = next_touched c.args.line.now _ c.in-Some.date c.requires c.in-Some.ensures refl refl refl (c.pop_front.ensures.rest)

pub returns-clause-next : goal.returns-clause-next
returns-clause-next c = next_kept c.args.line.now _ c.in_ok-date.date c.requires c.in_default.ensures c.in_ok-date.ensures.date refl refl refl refl

pub returns-clause-rise : goal.returns-clause-rise
returns-clause-rise c = rest_rise c.args.line.now c.in_ok-date.date c.requires c.in_ok-date.ensures.inside c.in_ok-date.ensures.date
