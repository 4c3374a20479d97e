use Rattle.director.specs.Written.{came_of}
use Rattle.sessions.proofs.GoesLemmas.{goes_restarted, not_ok}
use Rattle.sessions.proofs.state.Session.restart.Goals as goal

pub returns-in-Ok-clause-went : goal.returns-in-Ok-clause-went
returns-in-Ok-clause-went g c = let t = c.try_thrice-came.ensures in (t.0, came_of c.try_thrice-came.result, c.in-Ok.ensures.fault, goes_restarted c.args.self.now t.1 t.2 c.put.ensures.put)

pub returns-in-Err-clause-went : goal.returns-in-Err-clause-went
returns-in-Err-clause-went g c =
    let t = c.try_thrice-came.ensures in
    (t.0, came_of c.try_thrice-came.result, not_ok (came_of c.try_thrice-came.result) c.in-Err.fault c.in-Err.ensures.fault, goes_restarted c.args.self.now t.1 t.2 c.put.ensures.put)
