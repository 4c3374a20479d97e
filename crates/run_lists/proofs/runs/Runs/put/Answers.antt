use Rattle.std.proofs.Common.{◌≡◌, ◌∙◌, ◌^◌, ◌≤◌, ◌+◌, ◌-◌, length, ap, vec_capacity, arith}
use Rattle.run_lists.specs.Edits.{added, hidden, put_in}
use Rattle.run_lists.specs.Positions.{room_of, stands}
use Rattle.run_lists.specs.Rooms.{RunsValue}
use Rattle.run_lists.specs.declared.positions.Standing.TheVariants.{Running, Queued, InFlight}
use Rattle.run_lists.proofs.HoldLemmas.{index_put, index_rises, index_room, index_small, put_new, put_over}
use Rattle.run_lists.proofs.runs.Runs.put.Goals as goal

pub place-requires-clause-rising : goal.place-requires-clause-rising
place-requires-clause-rising c = index_rises (stands Running) c.self.inside.runs.items c.self.inside.running.items (vec_capacity c.self.inside.running) c.self.invariant.0

pub place-requires-clause-small : goal.place-requires-clause-small
place-requires-clause-small c = index_small (stands Running) c.self.inside.runs.items c.self.inside.running.items (vec_capacity c.self.inside.running) (2 ^ 64) c.self.invariant.0 (omega (arith, c.self.invariant.0.room, c.self.inside.running.ok.1))

pub place-requires-clause-room : goal.place-requires-clause-room
place-requires-clause-room c =
    let rs : length c.self.inside.runs.items ≡ length c.args.self.now.runs = ap (λ (v : RunsValue). length v.runs) c.self.view_is in
    let room : room_of c.self.inside.runs.room (vec_capacity c.self.inside.running - length c.self.inside.runs.items) (vec_capacity c.self.inside.queued - length c.self.inside.runs.items) (vec_capacity c.self.inside.in_flight - length c.self.inside.runs.items) ≡ c.args.self.now.room = ap (λ (v : RunsValue). v.room) c.self.view_is in
    let within : c.args.edit.at + hidden c.args.edit.is_new ≤ length c.self.inside.runs.items = omega (arith, c.requires.within, rs) in
    let fits0 : length c.self.inside.runs.items + added c.args.edit.is_new ≤ vec_capacity c.self.inside.running = omega (arith, c.requires.place, room, c.self.invariant.0.room) in
    index_room (stands Running) c.args.edit.is_new c.args.edit.at c.args.edit.run c.self.inside.runs.items c.self.inside.running.items (vec_capacity c.self.inside.running) c.stands-running.result c.self.invariant.0 within c.stands-running.ensures fits0

pub place-requires-2-clause-rising : goal.place-requires-2-clause-rising
place-requires-2-clause-rising c = index_rises (stands Queued) c.self.inside.runs.items c.self.inside.queued.items (vec_capacity c.self.inside.queued) c.self.invariant.1

pub place-requires-2-clause-small : goal.place-requires-2-clause-small
place-requires-2-clause-small c = index_small (stands Queued) c.self.inside.runs.items c.self.inside.queued.items (vec_capacity c.self.inside.queued) (2 ^ 64) c.self.invariant.1 (omega (arith, c.self.invariant.1.room, c.self.inside.queued.ok.1))

pub place-requires-2-clause-room : goal.place-requires-2-clause-room
place-requires-2-clause-room c =
    let rs : length c.self.inside.runs.items ≡ length c.args.self.now.runs = ap (λ (v : RunsValue). length v.runs) c.self.view_is in
    let room : room_of c.self.inside.runs.room (vec_capacity c.self.inside.running - length c.self.inside.runs.items) (vec_capacity c.self.inside.queued - length c.self.inside.runs.items) (vec_capacity c.self.inside.in_flight - length c.self.inside.runs.items) ≡ c.args.self.now.room = ap (λ (v : RunsValue). v.room) c.self.view_is in
    let within : c.args.edit.at + hidden c.args.edit.is_new ≤ length c.self.inside.runs.items = omega (arith, c.requires.within, rs) in
    let fits1 : length c.self.inside.runs.items + added c.args.edit.is_new ≤ vec_capacity c.self.inside.queued = omega (arith, c.requires.place, room, c.self.invariant.1.room) in
    index_room (stands Queued) c.args.edit.is_new c.args.edit.at c.args.edit.run c.self.inside.runs.items c.self.inside.queued.items (vec_capacity c.self.inside.queued) c.stands-queued.result c.self.invariant.1 within c.stands-queued.ensures fits1

pub place-requires-3-clause-rising : goal.place-requires-3-clause-rising
place-requires-3-clause-rising c = index_rises (stands InFlight) c.self.inside.runs.items c.self.inside.in_flight.items (vec_capacity c.self.inside.in_flight) c.self.invariant.2

pub place-requires-3-clause-small : goal.place-requires-3-clause-small
place-requires-3-clause-small c = index_small (stands InFlight) c.self.inside.runs.items c.self.inside.in_flight.items (vec_capacity c.self.inside.in_flight) (2 ^ 64) c.self.invariant.2 (omega (arith, c.self.invariant.2.room, c.self.inside.in_flight.ok.1))

pub place-requires-3-clause-room : goal.place-requires-3-clause-room
place-requires-3-clause-room c =
    let rs : length c.self.inside.runs.items ≡ length c.args.self.now.runs = ap (λ (v : RunsValue). length v.runs) c.self.view_is in
    let room : room_of c.self.inside.runs.room (vec_capacity c.self.inside.running - length c.self.inside.runs.items) (vec_capacity c.self.inside.queued - length c.self.inside.runs.items) (vec_capacity c.self.inside.in_flight - length c.self.inside.runs.items) ≡ c.args.self.now.room = ap (λ (v : RunsValue). v.room) c.self.view_is in
    let within : c.args.edit.at + hidden c.args.edit.is_new ≤ length c.self.inside.runs.items = omega (arith, c.requires.within, rs) in
    let fits2 : length c.self.inside.runs.items + added c.args.edit.is_new ≤ vec_capacity c.self.inside.in_flight = omega (arith, c.requires.place, room, c.self.invariant.2.room) in
    index_room (stands InFlight) c.args.edit.is_new c.args.edit.at c.args.edit.run c.self.inside.runs.items c.self.inside.in_flight.items (vec_capacity c.self.inside.in_flight) c.stands-in_flight.result c.self.invariant.2 within c.stands-in_flight.ensures fits2

pub invariant_of-self : goal.invariant_of-self
invariant_of-self c =
    let rs : length c.self.inside.runs.items ≡ length c.args.self.now.runs = ap (λ (v : RunsValue). length v.runs) c.self.view_is in
    let room : room_of c.self.inside.runs.room (vec_capacity c.self.inside.running - length c.self.inside.runs.items) (vec_capacity c.self.inside.queued - length c.self.inside.runs.items) (vec_capacity c.self.inside.in_flight - length c.self.inside.runs.items) ≡ c.args.self.now.room = ap (λ (v : RunsValue). v.room) c.self.view_is in
    let within : c.args.edit.at + hidden c.args.edit.is_new ≤ length c.self.inside.runs.items = omega (arith, c.requires.within, rs) in
    let fits0 : length c.self.inside.runs.items + added c.args.edit.is_new ≤ vec_capacity c.self.inside.running = omega (arith, c.requires.place, room, c.self.invariant.0.room) in
    let fits1 : length c.self.inside.runs.items + added c.args.edit.is_new ≤ vec_capacity c.self.inside.queued = omega (arith, c.requires.place, room, c.self.invariant.1.room) in
    let fits2 : length c.self.inside.runs.items + added c.args.edit.is_new ≤ vec_capacity c.self.inside.in_flight = omega (arith, c.requires.place, room, c.self.invariant.2.room) in
    let puts = put_new c.args.edit.is_new c.self.inside.runs.items c.insert.new.self.items c.args.edit.at c.args.edit.run c.if-is_new.true c.insert.ensures.items in (
      index_put (stands Running) c.args.edit.is_new c.args.edit.at c.args.edit.run c.self.inside.runs.items c.insert.new.self.items c.self.inside.running.items c.place.new.positions.items (vec_capacity c.self.inside.running) (vec_capacity c.place.new.positions) c.stands-running.result
          c.self.invariant.0 within c.stands-running.ensures fits0 c.place.ensures.items c.place.ensures.room puts,
      index_put (stands Queued) c.args.edit.is_new c.args.edit.at c.args.edit.run c.self.inside.runs.items c.insert.new.self.items c.self.inside.queued.items c.place-2.new.positions.items (vec_capacity c.self.inside.queued) (vec_capacity c.place-2.new.positions) c.stands-queued.result
          c.self.invariant.1 within c.stands-queued.ensures fits1 c.place-2.ensures.items c.place-2.ensures.room puts,
      index_put (stands InFlight) c.args.edit.is_new c.args.edit.at c.args.edit.run c.self.inside.runs.items c.insert.new.self.items c.self.inside.in_flight.items c.place-3.new.positions.items (vec_capacity c.self.inside.in_flight) (vec_capacity c.place-3.new.positions) c.stands-in_flight.result
          c.self.invariant.2 within c.stands-in_flight.ensures fits2 c.place-3.ensures.items c.place-3.ensures.room puts,
    )

pub invariant_of-self-else-is_new : goal.invariant_of-self-else-is_new
invariant_of-self-else-is_new c =
    let rs : length c.self.inside.runs.items ≡ length c.args.self.now.runs = ap (λ (v : RunsValue). length v.runs) c.self.view_is in
    let room : room_of c.self.inside.runs.room (vec_capacity c.self.inside.running - length c.self.inside.runs.items) (vec_capacity c.self.inside.queued - length c.self.inside.runs.items) (vec_capacity c.self.inside.in_flight - length c.self.inside.runs.items) ≡ c.args.self.now.room = ap (λ (v : RunsValue). v.room) c.self.view_is in
    let within : c.args.edit.at + hidden c.args.edit.is_new ≤ length c.self.inside.runs.items = omega (arith, c.requires.within, rs) in
    let fits0 : length c.self.inside.runs.items + added c.args.edit.is_new ≤ vec_capacity c.self.inside.running = omega (arith, c.requires.place, room, c.self.invariant.0.room) in
    let fits1 : length c.self.inside.runs.items + added c.args.edit.is_new ≤ vec_capacity c.self.inside.queued = omega (arith, c.requires.place, room, c.self.invariant.1.room) in
    let fits2 : length c.self.inside.runs.items + added c.args.edit.is_new ≤ vec_capacity c.self.inside.in_flight = omega (arith, c.requires.place, room, c.self.invariant.2.room) in
    let puts = put_over c.args.edit.is_new c.self.inside.runs.items c.set.new.self.items c.args.edit.at c.args.edit.run c.if-is_new.false c.set.ensures.items in (
      index_put (stands Running) c.args.edit.is_new c.args.edit.at c.args.edit.run c.self.inside.runs.items c.set.new.self.items c.self.inside.running.items c.place.new.positions.items (vec_capacity c.self.inside.running) (vec_capacity c.place.new.positions) c.stands-running.result
          c.self.invariant.0 within c.stands-running.ensures fits0 c.place.ensures.items c.place.ensures.room puts,
      index_put (stands Queued) c.args.edit.is_new c.args.edit.at c.args.edit.run c.self.inside.runs.items c.set.new.self.items c.self.inside.queued.items c.place-2.new.positions.items (vec_capacity c.self.inside.queued) (vec_capacity c.place-2.new.positions) c.stands-queued.result
          c.self.invariant.1 within c.stands-queued.ensures fits1 c.place-2.ensures.items c.place-2.ensures.room puts,
      index_put (stands InFlight) c.args.edit.is_new c.args.edit.at c.args.edit.run c.self.inside.runs.items c.set.new.self.items c.self.inside.in_flight.items c.place-3.new.positions.items (vec_capacity c.self.inside.in_flight) (vec_capacity c.place-3.new.positions) c.stands-in_flight.result
          c.self.invariant.2 within c.stands-in_flight.ensures fits2 c.place-3.ensures.items c.place-3.ensures.room puts,
    )

pub returns-else-is_new-clause-runs : goal.returns-else-is_new-clause-runs
returns-else-is_new-clause-runs c =
    put_over c.args.edit.is_new c.self.inside.runs.items c.set.new.self.items c.args.edit.at c.args.edit.run c.if-is_new.false c.set.ensures.items
    ∙ ap (λ (v : RunsValue). put_in c.args.edit.is_new c.args.edit.at c.args.edit.run (λ _. c.args.edit.run) v.runs) c.self.view_is
