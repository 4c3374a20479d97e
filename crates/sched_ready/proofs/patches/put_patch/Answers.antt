use Rattle.std.proofs.Common.{◌∙◌, ◌<◌, ap, length, refl, slice_set, sym, List, arith}
use Rattle.std.proofs.lemmas.Option.{slice_get_read}
use Rattle.sched_ready.specs.Patched.{with_queues}
use Rattle.sched_ready.specs.Shelves.{ShelfValue}
use Rattle.sched_ready.proofs.PutLemmas.{at_beyond, set_is_at}
use Rattle.sched_ready.proofs.patches.put_patch.Goals as goal

pub returns-then-graph-len-clause-shelves : goal.returns-then-graph-len-clause-shelves
returns-then-graph-len-clause-shelves c =
    let ss : List ShelfValue = c.args.shelves.now.items in
    let n = c.args.patch.graph in
    let within : n < length ss = omega (arith, c.if-graph-len.true, c.len.ensures, c.args.shelves.now.ok.0) in
    ap (slice_set ss n) c.put_queues.ensures ∙ set_is_at (with_queues c.args.patch.queues.items) n ss c.index_mut.result.now (slice_get_read ss (length ss) n c.index_mut.result.now refl within c.index_mut.ensures.value)

pub returns-else-graph-len-clause-shelves : goal.returns-else-graph-len-clause-shelves
returns-else-graph-len-clause-shelves c =
    let ss : List ShelfValue = c.args.shelves.now.items in
    sym (at_beyond (with_queues c.args.patch.queues.items) c.args.patch.graph ss (omega (arith, c.if-graph-len.false, c.len.ensures, c.args.shelves.now.ok.0)))
