use Rattle.director.specs.Written.{came_of}
use Rattle.sessions.proofs.GoesLemmas.{done_kept, done_lost, tried_put}
use Rattle.sessions.proofs.state.Session.step_report.Goals as goal

pub returns-in-Ok-clause-done : goal.returns-in-Ok-clause-done
returns-in-Ok-clause-done g c = let t = c.try_thrice-came.ensures in (t.0, came_of c.try_thrice-came.result, t.1, done_kept (came_of c.try_thrice-came.result) c.in-Ok.ensures.fault (tried_put c.args.self.now t.2 c.put.ensures.put))

pub returns-in-Refused-clause-done : goal.returns-in-Refused-clause-done
returns-in-Refused-clause-done g c = let t = c.try_thrice-came.ensures in (t.0, came_of c.try_thrice-came.result, t.1, done_lost c.in-Err.ensures.fault (tried_put c.args.self.now t.2 c.put.ensures.put))

pub returns-in_default-clause-done : goal.returns-in_default-clause-done
returns-in_default-clause-done g c = let t = c.try_thrice-came.ensures in (t.0, came_of c.try_thrice-came.result, t.1, done_lost c.in-Err.ensures.fault (tried_put c.args.self.now t.2 c.put.ensures.put))
