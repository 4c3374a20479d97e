use Rattle.std.proofs.Common.{arith}
use Rattle.sched_clearing.proofs.SpanLemmas.{equal_by, one_more, other_by, runs_to_end, runs_to_other}
use Rattle.sched_clearing.proofs.spans.span_of_all.Goals as goal

pub loop-position-preserved : goal.loop-position-preserved
loop-position-preserved c =
    one_more c.args.graph.now c.args.draft.now.content.runs c.first_of-first.result c.loop-position.position c.run.result.now c.run.ensures (equal_by c.ne.result _ c.ne.ensures c.if-ne.false) c.loop-position.invariant

pub returns-then-ne : goal.returns-then-ne
returns-then-ne c =
    runs_to_other c.args.graph.now c.args.draft.now.content.runs c.first_of-first.result c.loop-position.position c.run.result.now c.requires c.first_of-first.ensures c.loop-position.auto.position c.run.ensures (other_by c.ne.result _ c.ne.ensures c.if-ne.true) c.loop-position.invariant

pub returns : goal.returns
returns c =
    runs_to_end c.args.graph.now c.args.draft.now.content.runs c.first_of-first.result c.run_count-count.result c.loop-position.position c.first_of-first.ensures c.run_count-count.ensures (omega (arith, c.loop-position-test.false)) c.loop-position.invariant
