use Rattle.std.proofs.Common.{[], ◌∷◌, false, refl}
use Rattle.sessions.specs.History.{NoneThere, Reported}
use Rattle.sessions.proofs.GoesLemmas.{goes_quietly, goes_reported}
use Rattle.sessions.proofs.HistoryLemmas.{works_heard, works_none}
use Rattle.sessions.proofs.state.Session.hear_one.Goals as goal

pub returns-in-None-clause-went : goal.returns-in-None-clause-went
returns-in-None-clause-went g c =
    let none = c.in-None.ensures.none in
    let polled = c.poll.ensures in
    (NoneThere ∷ [], refl, goes_quietly NoneThere c.args.self.now refl refl refl refl tt (works_none none.0 none.1 polled.waits polled.sent polled.same))

pub returns-in-Ok-clause-went : goal.returns-in-Ok-clause-went
returns-in-Ok-clause-went g c =
    let d = c.step_report.ensures.done in
    let some = c.in-Some.ensures.some in
    let polled = c.poll.ensures in
    (Reported false c.in-Some.told d.0 d.1 ∷ [], (c.in-Some.told, d.0, d.1, refl), goes_reported false c.args.self.now d.2 (works_heard 0 some.0 some.1 polled.waits polled.sent polled.same) d.3)

pub returns-in-Err-clause-went : goal.returns-in-Err-clause-went
returns-in-Err-clause-went g c =
    let d = c.step_report.ensures.done in
    let some = c.in-Some.ensures.some in
    let polled = c.poll.ensures in
    (Reported false c.in-Some.told d.0 d.1 ∷ [], (c.in-Some.told, d.0, d.1, refl), goes_reported false c.args.self.now d.2 (works_heard 0 some.0 some.1 polled.waits polled.sent polled.same) d.3)
