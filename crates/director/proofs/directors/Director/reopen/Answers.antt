use Rattle.std.proofs.Common.{◌∙◌, ap}
use Rattle.meta_store.specs.Schedules.{ScheduleValue}
use Rattle.director.proofs.directors.Director.reopen.Goals as goal

pub returns-clause-opened : goal.returns-clause-opened
returns-clause-opened g c =
    let limits = c.limits-limits.ensures ∙ ap (λ (h : ScheduleValue). h.content.limits) c.schedule.ensures in
    rw (← limits) (rw (← c.close.ensures) c.open.ensures.opened)

pub returns-clause-transacts : goal.returns-clause-transacts
returns-clause-transacts g c =
    let limits = c.limits-limits.ensures ∙ ap (λ (h : ScheduleValue). h.content.limits) c.schedule.ensures in
    rw (← limits) (rw (← c.close.ensures) c.open.ensures.transacts)

pub returns-clause-fault : goal.returns-clause-fault
returns-clause-fault g c =
    let limits = c.limits-limits.ensures ∙ ap (λ (h : ScheduleValue). h.content.limits) c.schedule.ensures in
    rw (← limits) (rw (← c.close.ensures) c.open.ensures.fault)

pub returns-clause-refused_crash : goal.returns-clause-refused_crash
returns-clause-refused_crash g c = rw (← c.close.ensures) c.open.ensures.refused_crash

pub returns-clause-given : goal.returns-clause-given
returns-clause-given g c = rw (← c.close.ensures) c.open.ensures.given
