use Rattle.std.proofs.Common.{◌≡◌, ◌∙◌, true, refl}
use Rattle.sessions.specs.History.{is_reported, Step}
use Rattle.sessions.proofs.GoesLemmas.{none_yet, reports_more}
use Rattle.sessions.proofs.state.Session.drain.Goals as goal

pub loop-init : goal.loop-init
loop-init g c = record { went = none_yet (λ (x : Step). is_reported x ≡ true) c.args.self.now; told = λ s before waits h. h; failed = refl; over = refl }

pub loop-preserved : goal.loop-preserved
loop-preserved g c =
    let was = c.loop.invariant in
    record {
      went = reports_more true was.went c.await_one.ensures.went;
      told = λ s before waits h. c.waits.ensures.told s before waits (was.told s before waits h);
      failed = c.waits.ensures.failed ∙ was.failed;
      over = c.waits.ensures.over ∙ was.over;
    }

pub returns-in-Err-clause-went : goal.returns-in-Err-clause-went
returns-in-Err-clause-went g c = reports_more true c.loop.invariant.went c.await_one.ensures.went
