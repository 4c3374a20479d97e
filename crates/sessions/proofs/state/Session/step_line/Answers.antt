use Rattle.std.proofs.Common.{subst, sym}
use Rattle.director.specs.Directors.{ScheduleValue}
use Rattle.director.specs.Written.{came_of}
use Rattle.sessions.specs.Lines.{IsCome}
use Rattle.sessions.proofs.GoesLemmas.{goes_told, is_come}
use Rattle.sessions.proofs.state.Session.step_line.Goals as goal

pub returns-clause-went : goal.returns-clause-went
returns-clause-went g c =
    (came_of c.try_step-came.result, λ since line takes s before told. c.answered-told.ensures.told s before since line takes told, goes_told c.args.self.now c.requires.line c.try_step-came.ensures.tried c.put-put.ensures.put)

pub answered-told-requires-clause-came : goal.answered-told-requires-clause-came
answered-told-requires-clause-came g c =
    subst (λ (b : ScheduleValue). IsCome c.args.event c.try_step-came.result b.content) (sym c.schedule.ensures)
    (is_come c.args.self.now.stepper.director.schedule.content c.try_step-came.new.self.director.schedule.content c.args.event c.try_step-came.result c.try_step-came.ensures.of c.try_step-came.ensures.tried.outcome)
