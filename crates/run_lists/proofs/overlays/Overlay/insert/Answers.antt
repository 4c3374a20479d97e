use Rattle.std.proofs.Common.{ap, length, insert, arith}
use Rattle.std.proofs.lemmas.Result.{on_ok_weaker}
use Rattle.run_lists.specs.Overlays.{OverlayValue, IsAdded}
use Rattle.run_lists.specs.Touched.{touched_with}
use Rattle.run_lists.proofs.OverlayLemmas.{viewed}
use Rattle.run_lists.proofs.overlays.Overlay.insert.Goals as goal

pub add-requires-clause-within : goal.add-requires-clause-within
add-requires-clause-within c = omega (arith, c.requires, ap (λ (v : OverlayValue). length v.runs) c.self.view_is)

pub returns-clause-ok : goal.returns-clause-ok
returns-clause-ok c =
    on_ok_weaker c.add.result
    (λ (is : IsAdded c.args.position c.args.run c.self.inside.edits.items c.add.new.edits.items c.self.inside.base.now.runs).
    viewed (λ rs. insert rs c.args.position c.args.run) (touched_with c.args.position) c.self.inside.base.now.runs _ _ _ _ c.args.self.now c.self.view_is is.runs is.positions)
    c.add.ensures.ok
