use Rattle.std.proofs.Common.{None, refl, ap}
use Rattle.director.specs.Directors.{ScheduleValue}
use Rattle.sessions.specs.Told.{Rests}
use Rattle.sessions.proofs.ServeLemmas.{serves_next, serves_nothing, serves_then, serves_unsaid, serves_weaker, where_ok}
use Rattle.sessions.proofs.state.Session.follow.Goals as goal

pub loop-init : goal.loop-init
loop-init g c = record { served = serves_nothing; failed = c.requires.sound }

pub returns-in-Ok-None-clause-served : goal.returns-in-Ok-None-clause-served
returns-in-Ok-None-clause-served g c =
    let was = c.loop.invariant.served in
    let seen = ap (λ (s : ScheduleValue). s.content) c.schedule.ensures in
    serves_then was
    (serves_then (serves_next c.loop.lines c.next-in-loop.new.self c.in-Ok-None.field-0-is seen c.in-Ok-None.ensures.told)
    (serves_unsaid c.next-in-loop.new.self c.drain.new.lines c.drain.ensures.went c.drain.ensures.told (where_ok c.drain.result refl)))

pub returns-in-Err-do_line-clause-served : goal.returns-in-Err-do_line-clause-served
returns-in-Err-do_line-clause-served g c =
    let was = c.loop.invariant.served in
    let seen = ap (λ (s : ScheduleValue). s.content) c.schedule.ensures in
    serves_then was
    (serves_then (serves_next c.loop.lines c.next-in-loop.new.self c.in-Ok-Some.field-0-is seen c.in-Ok-Some.ensures.told)
    (serves_weaker (λ last v h. tt) c.in-Err-do_line.ensures.served))

pub loop-preserved : goal.loop-preserved
loop-preserved g c =
    let was = c.loop.invariant.served in
    let seen = ap (λ (s : ScheduleValue). s.content) c.schedule.ensures in
    record {
      served = serves_then was (serves_then (serves_next c.loop.lines c.next-in-loop.new.self c.in-Ok-Some.field-0-is seen c.in-Ok-Some.ensures.told) c.in_default.ensures.served);
      failed = c.in_default.ensures.fault;
    }

pub returns-in-Err-clause-served : goal.returns-in-Err-clause-served
returns-in-Err-clause-served g c =
    let was = c.loop.invariant.served in
    let seen = ap (λ (s : ScheduleValue). s.content) c.schedule.ensures in
    serves_then was (serves_weaker {P = Rests None} (λ last v h. tt) (serves_next c.loop.lines c.next-in-loop.new.self refl seen c.in-Err.ensures.told))
