use Rattle.std.proofs.Common.{◌≡◌, ◌+◌, ◌<◌, ◌^◌, List, ap, sym, refl, get_or, take, arith}
use Rattle.std.proofs.lemmas.Bool.{ltb-true}
use Rattle.std.proofs.lemmas.List.Sums.{sum_by_more_le}
use Rattle.sched_state.specs.declared.runs.Run.{Run}
use Rattle.sched_model.specs.Handout.{last_serial}
use Rattle.sched_core.specs.Inside.{open_in}
use Rattle.sched_core.proofs.ViewLemmas.{sum_less}
use Rattle.sched_core.proofs.counting.count_open.Goals as goal

pub take-requires : goal.take-requires
take-requires c =
    let rs : List Run = c.args.runs.now in
    let r : Run = c.run-item.result in
    let counted = c.loop-run.invariant.1 r.graph in
    let less = sum_less r.graph (take c.loop-run.run-index rs) in
    let more = sum_by_more_le open_in rs c.loop-run.run-index r c.loop-run-test.true in
    let read : open_in (get_or rs c.loop-run.run-index r) ≡ open_in r = ap open_in (sym c.run-item.is) in
    let high : last_serial + 1 < 2 ^ 64 = ltb-true (last_serial + 1) (2 ^ 64) refl in
    omega (arith, counted, less, more, read, c.open_in-here.ensures, c.requires, high)
