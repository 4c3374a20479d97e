use Rattle.std.proofs.Common.{refl}
use Rattle.sessions.proofs.ServeLemmas.{serves_event}
use Rattle.sessions.proofs.state.Session.do_line.Goals as goal

pub returns-in-Ok-clause-served : goal.returns-in-Ok-clause-served
returns-in-Ok-clause-served g c = let w = c.step_line.ensures.went in rw c.in-Event.is (serves_event c.args.lines.now c.step_line.new.lines w.1 w.2 (refl, refl))

pub returns-in-Err-clause-served : goal.returns-in-Err-clause-served
returns-in-Err-clause-served g c = let w = c.step_line.ensures.went in rw c.in-Event.is (serves_event c.args.lines.now c.step_line.new.lines w.1 w.2 tt)

pub returns-in-TickNow-clause-served : goal.returns-in-TickNow-clause-served
returns-in-TickNow-clause-served g c = rw c.in-TickNow.is c.tick_now.ensures.served

pub returns-in-Drain-clause-served : goal.returns-in-Drain-clause-served
returns-in-Drain-clause-served g c = rw c.in-Drain.is c.drain_line.ensures.served
