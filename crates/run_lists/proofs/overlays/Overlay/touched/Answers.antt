use Rattle.std.proofs.Common.{◌∙◌, ap, subst}
use Rattle.std.proofs.lemmas.Result.{IfOk-weaker}
use Rattle.std.specs.List.Sorted.{IsStrictlySortedBy}
use Rattle.std.specs.Ordering.{nat_cmp}
use Rattle.run_lists.specs.Edits.{positions_in}
use Rattle.run_lists.specs.Overlays.{OverlayValue, AreAllTouched}
use Rattle.run_lists.proofs.PositionLemmas.{positions_rise}
use Rattle.run_lists.proofs.TouchLemmas.{touched_all}
use Rattle.run_lists.proofs.overlays.Overlay.touched.Goals as goal

pub returns : goal.returns
returns c = record {
  positions = IfOk-weaker c.positions.result _ _ (λ ns is. is ∙ ap positions_in c.deref.ensures.value ∙ ap (λ (v : OverlayValue). v.touched) c.self.view_is) c.positions.ensures;
  order = subst (λ (v : OverlayValue). IsStrictlySortedBy nat_cmp v.touched) c.self.view_is (positions_rise 0 0 c.self.inside.edits.items c.self.inside.base.now.runs c.self.invariant);
  over = subst (λ (v : OverlayValue). AreAllTouched v.touched v.base v.runs) c.self.view_is (touched_all c.self.inside.edits.items c.self.inside.base.now.runs c.self.invariant);
}
