use Rattle.std.proofs.Common.{subst}
use Rattle.sched_handout.specs.Occupied.{AreOccupied}
use Rattle.sched_core.specs.Books.{IsCounted}
use Rattle.sched_core.specs.Changes.{ScheduleValue}
use Rattle.sched_core.proofs.BookLemmas.{counted_same, occupied_as}
use Rattle.sched_core.proofs.schedules.Schedule.finish.Goals as goal

pub finish_with-requires-clause-counted : goal.finish_with-requires-clause-counted
finish_with-requires-clause-counted c =
    counted_same c.args.self.now.content c.args.draft.content c.requires.open (subst (λ (h : ScheduleValue). IsCounted h.content) c.self.view_is c.self.invariant.held.counted)

pub finish_with-requires-clause-occupied : goal.finish_with-requires-clause-occupied
finish_with-requires-clause-occupied c =
    occupied_as c.args.self.now.content c.args.draft.content c.self.inside.occupied c.in_ok-occupied.occupied c.requires.open c.requires.pools c.in_ok-occupied.ensures.in_flight c.in_ok-occupied.ensures.pools c.in_ok-occupied.ensures.active
    (subst (λ (h : ScheduleValue). AreOccupied h.content c.self.inside.occupied) c.self.view_is c.self.invariant.held.occupied)
