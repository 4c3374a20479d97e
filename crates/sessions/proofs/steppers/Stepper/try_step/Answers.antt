use Rattle.std.proofs.Common.{rules, ◌<◌, refl}
use Rattle.sqlite.specs.Held.{state}
use Rattle.director.proofs.LeaveLemmas.{leaves_written}
use Rattle.sessions.proofs.GoesLemmas.{tried_once, untried}
use Rattle.sessions.proofs.steppers.Stepper.try_step.Goals as goal

-- there is no room in the minutes
pub returns-then-is_err-clause-tried : goal.returns-then-is_err-clause-tried
returns-then-is_err-clause-tried g c =
    untried (state g.S.Store) c.args.self.now (record { director = c.args.self.now.director; minutes = c.reserve.new.self; tries = c.saturating_add-self.result }) c.reserve.ensures.items c.reserve.ensures.keep c.saturating_add-self.ensures refl

pub returns-clause-tried : goal.returns-clause-tried
returns-clause-tried g c =
    let wrote = c.write.ensures in
    let old = c.args.self.now.director in
    let room : 0 < c.reserve.new.self.room = search rules in
    tried_once (state g.S.Store) c.args.event.now c.write.result c.args.self.now (record { director = c.write.new.self; minutes = c.reserve.new.self; tries = c.saturating_add-self.result }) room c.reserve.ensures.items c.reserve.ensures.keep c.saturating_add-self.ensures wrote.opened
    wrote.outcome wrote.followed
    (leaves_written (state g.S.Store) old.schedule.content c.args.event.now c.write.result old.store c.write.new.self.store wrote.transacts wrote.untouched)
