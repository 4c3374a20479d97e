use Rattle.std.proofs.Common.{◌∙◌, sym, arith}
use Rattle.run_lists.proofs.OrderLemmas.{last_apart}
use Rattle.run_lists.proofs.SpanLemmas.{from_after, from_there}
use Rattle.run_lists.proofs.overlays.Overlay.position_from.Goals as goal
use Rattle.run_lists.proofs.overlays.Overlay.position_from.Goals.{else-after-gt0-via-then-after-gt0+else-has_key, else-after-gt0-via-else-after-gt0}

pub returns-then-has_key : goal.returns-then-has_key
returns-then-has_key c =
    from_there c.args.graph.now c.args.logical c.args.self.now.runs c.position_for-after.result c.get.result.now c.requires c.position_for-after.ensures c.if-after-gt0.true c.get.ensures (sym c.has_key.ensures ∙ c.if-has_key.true)

pub returns-else-after-gt0 : goal.returns-else-after-gt0
returns-else-after-gt0 c =
    from_after c.args.graph.now c.args.logical c.args.self.now.runs c.position_for-after.result c.requires c.position_for-after.ensures (elim c.else-after-gt0.branch [
      | else-after-gt0-via-then-after-gt0+else-has_key w ↦ last_apart c.args.graph.now c.args.logical c.args.self.now.runs c.position_for-after.result w.get.result.now w.get.ensures (sym w.has_key.ensures ∙ w.if-has_key.false)
      | else-after-gt0-via-else-after-gt0 w ↦ λ m q e g. absurd (omega (arith, e, w.if-after-gt0.false))
    ])
