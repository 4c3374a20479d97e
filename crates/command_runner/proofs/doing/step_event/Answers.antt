use Rattle.sqlite.specs.Held.{state}
use Rattle.director.specs.Faults.{IsGivenFault}
use Rattle.director.specs.Written.{came_of}
use Rattle.director.proofs.LeaveLemmas.{leaves_written}
use Rattle.command_runner.proofs.EventLemmas.{came_given, stepped}
use Rattle.command_runner.proofs.doing.step_event.Goals as goal

pub returns-in-Ok : goal.returns-in-Ok
returns-in-Ok g c =
    let first = c.in-Ok.director in
    let wrote = c.write-written.ensures in
    stepped (state g.S.Store) (state g.S.Store c.args.store) first c.write-written.new.self c.args.event.now (came_of c.write-written.result)
    (let o = rw c.full.ensures at c.in-Ok.ensures.opened in o) (let s = rw c.full.ensures at c.in-Ok.ensures.transacts in s)
    (let k = rw c.schedule.ensures at c.runs.ensures.kept in k) wrote.outcome wrote.followed
    (leaves_written (state g.S.Store) first.schedule.content c.args.event.now c.write-written.result first.store c.write-written.new.self.store wrote.transacts wrote.untouched)
    (λ clean. came_given (IsGivenFault (state g.S.Store first.store) (state g.S.Store c.write-written.new.self.store)) c.write-written.result (wrote.given clean))

pub returns-in-Err : goal.returns-in-Err
returns-in-Err g c = record {
  cause = (let f = rw c.full.ensures at c.in-Err.ensures.fault in f);
  given = c.in-Err.ensures.given;
  kept = c.in-Err.ensures.transacts.kept;
  crash = (let t = rw c.full.ensures at c.in-Err.ensures.transacts in t.crash);
  refused_crash = c.in-Err.ensures.refused_crash;
}
