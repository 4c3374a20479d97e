use Rattle.std.proofs.Common.{vec_capacity, arith}
use Rattle.run_lists.specs.Positions.{stands}
use Rattle.run_lists.specs.declared.positions.Standing.TheVariants.{Running, Queued, InFlight}
use Rattle.run_lists.proofs.HoldLemmas.{index_few}
use Rattle.run_lists.proofs.runs.Runs.reserve.Goals as goal

pub make_room-requires : goal.make_room-requires
make_room-requires c =
    let few = index_few (stands Running) c.self.inside.runs.items c.self.inside.running.items (vec_capacity c.self.inside.running) c.self.invariant.0 in
    omega (arith, few, c.len.ensures)

pub make_room-requires-2 : goal.make_room-requires-2
make_room-requires-2 c =
    let few = index_few (stands Queued) c.self.inside.runs.items c.self.inside.queued.items (vec_capacity c.self.inside.queued) c.self.invariant.1 in
    omega (arith, few, c.len.ensures)

pub make_room-requires-3 : goal.make_room-requires-3
make_room-requires-3 c =
    let few = index_few (stands InFlight) c.self.inside.runs.items c.self.inside.in_flight.items (vec_capacity c.self.inside.in_flight) c.self.invariant.2 in
    omega (arith, few, c.len.ensures)
