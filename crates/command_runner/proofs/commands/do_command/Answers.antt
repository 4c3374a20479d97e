use Rattle.std.proofs.Common.{inl, inr}
use Rattle.sqlite.specs.Held.{state}
use Rattle.director.specs.Written.{came_of}
use Rattle.command_runner.proofs.EventLemmas.{given_back}
use Rattle.command_runner.proofs.commands.do_command.Goals as goal

pub returns-in-Stepped : goal.returns-in-Stepped
returns-in-Stepped g c =
    let d = c.in-Stepped.director in
    let came = came_of c.in-Stepped.came in
    rw c.in-Step.is
    (inl (came, d.schedule.content, given_back (state g.S.Store) (state g.S.Store c.args.store) c.in-Step.event came d.schedule.content d.store c.close.result c.close.ensures c.in-Stepped.ensures, c.tell_event-told.ensures))

pub returns-in-Unopened : goal.returns-in-Unopened
returns-in-Unopened g c = rw c.in-Step.is (inr (c.in-Unopened.fault, c.in-Unopened.ensures, c.tell_failure-told.ensures))

pub returns-in-List : goal.returns-in-List
returns-in-List g c = rw c.in-List.is (c.read_schedule-read.result, c.read_schedule-read.ensures, c.tell_rows-told.ensures)

pub returns-in-Explain : goal.returns-in-Explain
returns-in-Explain g c = rw c.in-Explain.is (c.read_schedule-read-in-Explain.result, c.read_schedule-read-in-Explain.ensures, c.tell_reasons-told.ensures)
