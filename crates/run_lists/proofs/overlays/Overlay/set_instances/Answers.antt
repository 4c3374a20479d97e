use Rattle.std.proofs.Common.{ap, refl, sym, subst, length, arith}
use Rattle.sched_model.specs.Lists.{at}
use Rattle.run_lists.specs.Changes.{with_instances}
use Rattle.run_lists.specs.Edits.{AreInOrder}
use Rattle.dag_check.specs.Orders.{is_in}
use Rattle.run_lists.specs.Overlays.{OverlayValue}
use Rattle.run_lists.proofs.RiseLemmas.{in_order}
use Rattle.run_lists.proofs.OverlayLemmas.{owned_within, owned_written, positions_set, viewed}
use Rattle.run_lists.proofs.TouchLemmas.{owned_of}
use Rattle.run_lists.proofs.overlays.Overlay.set_instances.Goals as goal

pub place_of-place-requires : goal.place_of-place-requires
place_of-place-requires c = subst AreInOrder (sym c.deref.ensures.value) (in_order 0 0 c.self.inside.edits.items c.self.inside.base.now.runs c.self.invariant)

pub index_mut-edit-requires : goal.index_mut-edit-requires
index_mut-edit-requires c =
    let es = c.self.inside.edits.items in
    let rs = c.self.inside.base.now.runs in
    let owned =
    owned_of c.args.position c.place_of-place.result es c.deref.result.now rs _ c.deref.ensures.value c.self.invariant c.place_of-place.ensures.below c.place_of-place.ensures.from
    (ap (λ (v : OverlayValue). is_in v.touched c.args.position) c.self.view_is) c.requires in
    omega (
      arith,
      owned_within c.args.position c.place_of-place.result es es rs owned,
      c.deref.ensures.len,
      ap (λ xs. length xs) c.deref.ensures.value,
    )

pub invariant_of-self : goal.invariant_of-self
invariant_of-self c =
    let es = c.self.inside.edits.items in
    let rs = c.self.inside.base.now.runs in
    let owned =
    owned_of c.args.position c.place_of-place.result es c.deref.result.now rs _ c.deref.ensures.value c.self.invariant c.place_of-place.ensures.below c.place_of-place.ensures.from
    (ap (λ (v : OverlayValue). is_in v.touched c.args.position) c.self.view_is) c.requires in
    (owned_written (with_instances c.args.instances) (λ r. (refl, refl)) c.args.position c.place_of-place.result es es rs c.index_mut-edit.result.now
    owned c.index_mut-edit.ensures.value).0

pub returns : goal.returns
returns c =
    let es = c.self.inside.edits.items in
    let rs = c.self.inside.base.now.runs in
    let owned =
    owned_of c.args.position c.place_of-place.result es c.deref.result.now rs _ c.deref.ensures.value c.self.invariant c.place_of-place.ensures.below c.place_of-place.ensures.from
    (ap (λ (v : OverlayValue). is_in v.touched c.args.position) c.self.view_is) c.requires in
    viewed (at (with_instances c.args.instances) c.args.position) (λ ts. ts) rs _ _ _ _ c.args.self.now c.self.view_is
    (owned_written (with_instances c.args.instances) (λ r. (refl, refl)) c.args.position c.place_of-place.result es es rs c.index_mut-edit.result.now
    owned c.index_mut-edit.ensures.value).1
    (positions_set c.place_of-place.result es c.index_mut-edit.result.now _ c.index_mut-edit.ensures.value refl)
