use Rattle.std.proofs.Common.{refl, ap}
use Rattle.director.specs.Directors.{ScheduleValue}
use Rattle.sessions.proofs.ServeLemmas.{serves_drain, serves_unsaid}
use Rattle.sessions.proofs.state.Session.drain_line.Goals as goal

pub returns-in-Err-clause-served : goal.returns-in-Err-clause-served
returns-in-Err-clause-served g c = serves_unsaid c.args.lines.now c.drain.new.lines c.drain.ensures.went c.drain.ensures.told tt

pub returns-in-Ok-clause-served : goal.returns-in-Ok-clause-served
returns-in-Ok-clause-served g c =
    serves_drain c.args.lines.now c.drain.new.lines c.drained.new.self c.drain.ensures.went (ap (λ (s : ScheduleValue). s.content) c.schedule.ensures) c.drain.ensures.told c.drained.ensures.told (refl, refl)

pub returns-in-Err-drained-clause-served : goal.returns-in-Err-drained-clause-served
returns-in-Err-drained-clause-served g c =
    serves_drain c.args.lines.now c.drain.new.lines c.drained.new.self c.drain.ensures.went (ap (λ (s : ScheduleValue). s.content) c.schedule.ensures) c.drain.ensures.told c.drained.ensures.told tt
