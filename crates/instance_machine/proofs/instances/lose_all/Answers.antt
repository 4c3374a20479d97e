use Rattle.std.proofs.Common.{arith}
use Rattle.graph_file.proofs.WriteLemmas.{written_begins, written_set, written_over}
use Rattle.instance_machine.specs.Reports.{lost_try}
use Rattle.instance_machine.proofs.instances.lose_all.Goals as goal

pub loop-at-init : goal.loop-at-init
loop-at-init c = written_begins (lost_try c.args.now) c.args.tries.now.items

pub loop-at-preserved : goal.loop-at-preserved
loop-at-preserved c = written_set (lost_try c.args.now) c.args.tries.now.items _ _ _ c.index.result.now _ c.loop-at.invariant (omega (arith, c.len-at-end.ensures)) c.index.ensures c.lost_try.ensures

pub returns : goal.returns
returns c = written_over (lost_try c.args.now) c.args.tries.now.items _ c.loop-at.at c.loop-at.invariant (omega (arith, c.len-at-end.ensures))
