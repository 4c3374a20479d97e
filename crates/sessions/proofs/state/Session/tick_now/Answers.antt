use Rattle.std.proofs.Common.{Err, [], ◌∷◌, ◌++◌, ◌∙◌, refl, sym, ap, subst}
use Rattle.director.specs.Directors.{ScheduleValue}
use Rattle.sched_model.specs.Schedule.{Schedule}
use Rattle.sessions.proofs.ServeLemmas.{serves_no_clock, serves_tick, serves_unsaid}
use Rattle.sessions.proofs.state.Session.tick_now.Goals as goal

pub returns-in-Err-clause-served : goal.returns-in-Err-clause-served
returns-in-Err-clause-served g c = serves_unsaid c.args.lines.now c.args.lines.now c.in-Err.ensures.went (λ s before waits h. h) tt

-- the moment that the clock gave is the tick's
pub returns-in-Ok-step_line-clause-served : goal.returns-in-Ok-step_line-clause-served
returns-in-Ok-step_line-clause-served g c =
    let w = c.step_line.ensures.went in
    serves_tick c.args.lines.now c.step_line.new.lines c.args.clock.now c.now.new.self c.in_default.ensures.went (ap (λ (s : ScheduleValue). s.content) c.schedule.ensures)
    (λ k given h. rw c.in-Ok.is at (c.now.ensures k given h)) w.1 w.2 (refl, refl)

pub returns-in-Err-step_line-clause-served : goal.returns-in-Err-step_line-clause-served
returns-in-Err-step_line-clause-served g c =
    let w = c.step_line.ensures.went in
    serves_tick c.args.lines.now c.step_line.new.lines c.args.clock.now c.now.new.self c.in_default.ensures.went (ap (λ (s : ScheduleValue). s.content) c.schedule.ensures)
    (λ k given h. rw c.in-Ok.is at (c.now.ensures k given h)) w.1 w.2 tt

-- the lines are told why the clock gave none, and perhaps fail
pub returns-in-Ok-no_clock-clause-served : goal.returns-in-Ok-no_clock-clause-served
returns-in-Ok-no_clock-clause-served g c =
    serves_no_clock c.in-Err-now.fault c.args.lines.now c.no_clock.new.self c.args.clock.now c.now.new.self c.in_default.ensures.went (ap (λ (s : ScheduleValue). s.content) c.schedule-seen.ensures)
    (λ k given h. subst (λ (b : Schedule). g.C.Clock.gives k (given ++ (b, Err c.in-Err-now.fault) ∷ []) c.now.new.self) (ap (λ (s : ScheduleValue). s.content) (c.schedule.ensures ∙ sym c.schedule-seen.ensures)) (rw c.in-Err-now.is at (c.now.ensures k given h)))
    c.no_clock.ensures.told (refl, refl)

pub returns-in-Err-no_clock-clause-served : goal.returns-in-Err-no_clock-clause-served
returns-in-Err-no_clock-clause-served g c =
    serves_no_clock c.in-Err-now.fault c.args.lines.now c.no_clock.new.self c.args.clock.now c.now.new.self c.in_default.ensures.went (ap (λ (s : ScheduleValue). s.content) c.schedule-seen.ensures)
    (λ k given h. subst (λ (b : Schedule). g.C.Clock.gives k (given ++ (b, Err c.in-Err-now.fault) ∷ []) c.now.new.self) (ap (λ (s : ScheduleValue). s.content) (c.schedule.ensures ∙ sym c.schedule-seen.ensures)) (rw c.in-Err-now.is at (c.now.ensures k given h)))
    c.no_clock.ensures.told tt
