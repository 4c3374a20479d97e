use Rattle.std.proofs.Common.{[], ◌∷◌, true, refl}
use Rattle.sessions.specs.History.{Reported}
use Rattle.sessions.proofs.GoesLemmas.{goes_reported}
use Rattle.sessions.proofs.HistoryLemmas.{works_heard}
use Rattle.sessions.proofs.state.Session.await_one.Goals as goal

pub returns-clause-went : goal.returns-clause-went
returns-clause-went g c =
    let d = c.step_report.ensures.done in
    let told = c.wait-told.result in
    let waited = c.wait-told.ensures in
    (Reported true told d.0 d.1 ∷ [], (told, d.0, d.1, refl), goes_reported true c.args.self.now d.2 (works_heard 1 waited.heard waited.nones waited.waits waited.sent waited.same) d.3)
