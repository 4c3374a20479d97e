use Rattle.std.proofs.Common.{ap}
use Rattle.run_lists.specs.Positions.{stands}
use Rattle.run_lists.specs.declared.positions.Standing.TheVariants.{InFlight}
use Rattle.sched_core.proofs.StandingLemmas.{places_within}
use Rattle.sched_core.specs.Changes.{ScheduleValue}
use Rattle.sched_core.proofs.OpenLemmas.{found_in_flight}
use Rattle.sched_core.proofs.schedules.Schedule.open_try.Goals as goal

pub open_at-requires : goal.open_at-requires
open_at-requires c = places_within (stands InFlight) c.self.inside.runs.runs c.with_open_tries.result.now c.with_open_tries.ensures

pub returns-clause-one : goal.returns-clause-one
returns-clause-one c =
    found_in_flight c.args.self.now.content c.args.serial c.self.inside.runs.runs c.with_open_tries.result.now _ (ap (λ (h : ScheduleValue). h.content.runs) c.self.view_is) c.with_open_tries.ensures c.open_at.ensures.one
