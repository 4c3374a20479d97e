use Rattle.std.proofs.Common.{◌≡◌, true}
use Rattle.sessions.specs.History.{is_polled, Step}
use Rattle.sessions.proofs.GoesLemmas.{none_yet, polls_end, polls_fault, polls_more}
use Rattle.sessions.proofs.state.Session.hear_all.Goals as goal

pub loop-init : goal.loop-init
loop-init g c = none_yet (λ (x : Step). is_polled x ≡ true) c.args.self.now

pub loop-preserved : goal.loop-preserved
loop-preserved g c = polls_more c.in-Ok-true.field-0 c.in-Ok-true.field-0-test c.loop.invariant c.in-Ok-true.ensures.went

pub returns-in-Ok-false-clause-went : goal.returns-in-Ok-false-clause-went
returns-in-Ok-false-clause-went g c = polls_end c.in-Ok-false.field-0 c.in-Ok-false.field-0-test c.loop.invariant c.in-Ok-false.ensures.went

pub returns-in-Err-clause-went : goal.returns-in-Err-clause-went
returns-in-Err-clause-went g c = polls_fault c.loop.invariant c.in-Err.ensures.went
