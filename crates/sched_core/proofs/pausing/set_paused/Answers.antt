use Rattle.std.proofs.Common.{arith}
use Rattle.graph_file.proofs.WriteLemmas.{written_begins, written_set, written_over}
use Rattle.sched_model.specs.Changes.{pause_graph}
use Rattle.sched_core.proofs.pausing.set_paused.Goals as goal

pub loop-place-init : goal.loop-place-init
loop-place-init c = written_begins (pause_graph c.args.id.now c.args.paused) c.args.graphs.now.items

pub loop-place-preserved : goal.loop-place-preserved
loop-place-preserved c =
    written_set (pause_graph c.args.id.now c.args.paused) c.args.graphs.now.items _ _ _ c.index_mut.result.now _ c.loop-place.invariant (omega (arith, c.len-place-end.ensures)) c.index_mut.ensures.value c.set_paused_if.ensures

pub returns : goal.returns
returns c = written_over (pause_graph c.args.id.now c.args.paused) c.args.graphs.now.items _ c.loop-place.place c.loop-place.invariant (omega (arith, c.len-place-end.ensures))
