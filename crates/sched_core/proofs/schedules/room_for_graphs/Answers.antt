use Rattle.std.proofs.Common.{◌≤◌, ◌+◌, ◌-◌, length, min, subst, sym, arith, vec_len, vec_capacity, List}
use Rattle.std.proofs.lemmas.Result.{on_ok_weaker}
use Rattle.sched_state.specs.declared.graphs.LoadedGraph.{LoadedGraph}
use Rattle.sched_core.specs.declared.changes.GraphChange.{GraphChange}
use Rattle.sched_core.specs.Effects.{changed}
use Rattle.sched_core.proofs.TakeInLemmas.{length-with_graph}
use Rattle.sched_core.proofs.schedules.room_for_graphs.Goals as goal

pub returns-in_ok-reserve-in-Load-2-clause-room : goal.returns-in_ok-reserve-in-Load-2-clause-room
returns-in_ok-reserve-in-Load-2-clause-room c =
    let first : vec_len c.reserve.new.self + 1 ≤ vec_capacity c.reserve.new.self = c.in_ok-reserve-in-Load.ensures.ok in
    let second : vec_len c.reserve-in-Load.new.self + 1 ≤ vec_capacity c.reserve-in-Load.new.self = c.in_ok-reserve-in-Load-2.ensures.ok in
    on_ok_weaker c.reserve-in-Load-2.result
    (λ (made : vec_len c.reserve-in-Load-2.new.self + 1 ≤ vec_capacity c.reserve-in-Load-2.new.self) (gs : List LoadedGraph).
    subst (λ (g : GraphChange). length (changed g gs) ≤ length gs + min (vec_capacity c.reserve.new.self - vec_len c.reserve.new.self) (min (vec_capacity c.reserve-in-Load.new.self - vec_len c.reserve-in-Load.new.self) (vec_capacity c.reserve-in-Load-2.new.self - vec_len c.reserve-in-Load-2.new.self))) (sym c.in-Load.is)
    (omega (arith, first, second, made, length-with_graph c.in-Load.field-0 c.in-Load.field-1 gs)))
    c.reserve-in-Load-2.ensures.ok
