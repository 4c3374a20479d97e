use Rattle.sched_clearing.proofs.SpanLemmas.{AreAllOf}
use Rattle.sched_clearing.proofs.spans.span_of_all.Given as goal

abbrev pub invariant-loop-position : goal.invariant-loop-position
invariant-loop-position l = AreAllOf l.graph l.draft.content.runs l.first l.position
