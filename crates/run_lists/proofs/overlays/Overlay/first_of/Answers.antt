use Rattle.std.proofs.Common.{ℕ, subst}
use Rattle.run_lists.specs.Orders.{IsPositionFrom}
use Rattle.run_lists.proofs.SpanLemmas.{first_is}
use Rattle.run_lists.proofs.overlays.Overlay.first_of.Goals as goal

pub returns : goal.returns
returns c =
    first_is c.args.graph.now c.args.self.now.runs c.position_from.result (subst (λ (d : ℕ). IsPositionFrom c.args.graph.now d c.args.self.now.runs c.position_from.result) c.at.ensures c.position_from.ensures)
