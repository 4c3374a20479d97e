use Rattle.run_lists.proofs.SpanLemmas.{span_is}
use Rattle.run_lists.proofs.overlays.Overlay.span_of.Goals as goal

pub returns : goal.returns
returns c = span_is c.args.graph.now c.args.first c.args.last c.args.self.now.runs c.position_from.result c.position_for.result c.position_from.ensures c.position_for.ensures
