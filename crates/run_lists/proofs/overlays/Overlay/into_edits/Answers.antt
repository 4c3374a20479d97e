use Rattle.std.proofs.Common.{◌∙◌, ap, sym, subst}
use Rattle.run_lists.specs.Edits.{AreEditsOf, edited}
use Rattle.run_lists.specs.Overlays.{OverlayValue}
use Rattle.run_lists.proofs.overlays.Overlay.into_edits.Goals as goal

pub returns : goal.returns
returns c = record {
  edits = subst (λ (v : OverlayValue). AreEditsOf v.base c.self.inside.edits.items) c.self.view_is c.self.invariant;
  runs = ap (λ (v : OverlayValue). edited c.self.inside.edits.items v.base) (sym c.self.view_is) ∙ ap (λ (v : OverlayValue). v.runs) c.self.view_is;
  touched = ap (λ (v : OverlayValue). v.touched) c.self.view_is;
}
