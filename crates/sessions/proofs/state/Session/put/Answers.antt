use Rattle.std.proofs.Common.{refl}
use Rattle.sessions.proofs.GoesLemmas.{put_err, put_ok}
use Rattle.sessions.proofs.HistoryLemmas.{works_posted}
use Rattle.sessions.proofs.state.Session.put.Goals as goal

pub returns-in-Ok-clause-put : goal.returns-in-Ok-clause-put
returns-in-Ok-clause-put g c =
    put_ok c.args.self.now (record { stepper = c.put.new.self; executor = c.post.new.self; missed = c.args.self.now.missed }) c.in-Ok.is c.put.ensures.minutes c.put.ensures.keep c.put.ensures.director c.put.ensures.tries
    (works_posted c.post.ensures.sent c.post.ensures.asks c.post.ensures.same) refl

pub returns-in-Err-clause-put : goal.returns-in-Err-clause-put
returns-in-Err-clause-put g c = put_err c.args.self.now c.in-Err.is

pub returns-in-Ok-clause-fault : goal.returns-in-Ok-clause-fault
returns-in-Ok-clause-fault g c = rw c.in-Ok.is refl

pub returns-in-Err-clause-fault : goal.returns-in-Err-clause-fault
returns-in-Err-clause-fault g c = rw c.in-Err.is refl
