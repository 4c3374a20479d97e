use Rattle.std.proofs.Common.{arith}
use Rattle.sched_replacing.proofs.OwnLemmas.{end_begin, end_next, end_over}
use Rattle.sched_replacing.proofs.causes.reached.Goals as goal

pub loop-position-init : goal.loop-position-init
loop-position-init c = end_begin c.args.draft.now.content c.args.graph.now c.span_of_all-span.result.start c.span_of_all-span.result.end c.at-reached.result c.span_of_all-span.ensures c.at-reached.ensures

pub loop-position-preserved : goal.loop-position-preserved
loop-position-preserved c =
    end_next c.args.graph.now c.args.draft.now.content.runs c.span_of_all-span.result.start c.span_of_all-span.result.end c.loop-position.position c.run.result.now c.loop-position.reached c.later-reached.result _ c.span_of_all-span.ensures
    c.loop-position.auto.position c.loop-position-test.true c.run.ensures c.later-reached.ensures c.loop-position.invariant

pub returns : goal.returns
returns c =
    end_over c.args.graph.now c.args.draft.now.content.runs c.span_of_all-span.result.start c.span_of_all-span.result.end c.loop-position.position c.loop-position.reached _ c.span_of_all-span.ensures (omega (arith, c.loop-position-test.false))
    c.loop-position.invariant
