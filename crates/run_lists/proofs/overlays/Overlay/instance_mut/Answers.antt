use Rattle.std.proofs.Common.{ap, refl, sym, subst, set, length, arith}
use Rattle.sched_model.specs.Handout.{in_instance}
use Rattle.sched_model.specs.Lists.{at}
use Rattle.run_lists.specs.Changes.{instances_at}
use Rattle.run_lists.specs.Edits.{AreInOrder}
use Rattle.dag_check.specs.Orders.{is_in}
use Rattle.run_lists.specs.Overlays.{OverlayValue, IsInstanceAt}
use Rattle.run_lists.proofs.RiseLemmas.{in_order}
use Rattle.run_lists.proofs.OverlayLemmas.{owned_within, owned_instances, owned_instance, owned_item, positions_set, viewed}
use Rattle.run_lists.proofs.TouchLemmas.{owned_of}
use Rattle.run_lists.proofs.overlays.Overlay.instance_mut.Goals as goal

pub place_of-owned-requires : goal.place_of-owned-requires
place_of-owned-requires c = subst AreInOrder (sym c.deref.ensures.value) (in_order 0 0 c.self.inside.edits.items c.self.inside.base.now.runs c.self.invariant)

pub index_mut-edit-requires : goal.index_mut-edit-requires
index_mut-edit-requires c =
    let es = c.self.inside.edits.items in
    let rs = c.self.inside.base.now.runs in
    let owned =
    owned_of c.args.position c.place_of-owned.result es c.deref.result.now rs _ c.deref.ensures.value c.self.invariant c.place_of-owned.ensures.below c.place_of-owned.ensures.from
    (ap (λ (v : OverlayValue). is_in v.touched c.args.position) c.self.view_is) c.requires.own in
    omega (
      arith,
      owned_within c.args.position c.place_of-owned.result es es rs owned,
      c.deref.ensures.len,
      ap (λ xs. length xs) c.deref.ensures.value,
    )

pub item_mut-requires : goal.item_mut-requires
item_mut-requires c =
    let es = c.self.inside.edits.items in
    let rs = c.self.inside.base.now.runs in
    let owned =
    owned_of c.args.position c.place_of-owned.result es c.deref.result.now rs _ c.deref.ensures.value c.self.invariant c.place_of-owned.ensures.below c.place_of-owned.ensures.from
    (ap (λ (v : OverlayValue). is_in v.touched c.args.position) c.self.view_is) c.requires.own in
    omega (
      arith,
      c.requires.instance,
      ap (λ (v : OverlayValue). instances_at c.args.position v.runs) c.self.view_is,
      owned_instances c.args.position c.place_of-owned.result es es rs c.index_mut-edit.result.now owned c.index_mut-edit.ensures.value,
    )

pub invariant_of-self-lent : goal.invariant_of-self-lent
invariant_of-self-lent c w =
    let es = c.self.inside.edits.items in
    let rs = c.self.inside.base.now.runs in
    let owned =
    owned_of c.args.position c.place_of-owned.result es c.deref.result.now rs _ c.deref.ensures.value c.self.invariant c.place_of-owned.ensures.below c.place_of-owned.ensures.from
    (ap (λ (v : OverlayValue). is_in v.touched c.args.position) c.self.view_is) c.requires.own in
    (owned_instance (λ _. w) c.args.position c.place_of-owned.result c.args.place es es rs c.index_mut-edit.result.now
    c.item_mut.result.now w owned c.index_mut-edit.ensures.value c.item_mut.ensures.value refl).0

pub returns : goal.returns
returns c =
    let es = c.self.inside.edits.items in
    let rs = c.self.inside.base.now.runs in
    let owned =
    owned_of c.args.position c.place_of-owned.result es c.deref.result.now rs _ c.deref.ensures.value c.self.invariant c.place_of-owned.ensures.below c.place_of-owned.ensures.from
    (ap (λ (v : OverlayValue). is_in v.touched c.args.position) c.self.view_is) c.requires.own in (
      (
        refl,
        λ w. viewed (at (in_instance (λ _. w) c.args.place) c.args.position) (λ ts. ts) rs _ _ _ _ c.args.self.now c.self.view_is
            (owned_instance (λ _. w) c.args.position c.place_of-owned.result c.args.place es es rs c.index_mut-edit.result.now
            c.item_mut.result.now w owned c.index_mut-edit.ensures.value c.item_mut.ensures.value refl).1
            (positions_set c.place_of-owned.result es c.index_mut-edit.result.now
            (record c.index_mut-edit.result.now { run = record c.index_mut-edit.result.now.run { instances = set c.index_mut-edit.result.now.run.instances c.args.place w } }) c.index_mut-edit.ensures.value refl),
      ),
      record {
        writes_back = tt;
        value = subst (λ (v : OverlayValue). IsInstanceAt c.args.position c.args.place c.item_mut.result.now v.runs) c.self.view_is
            (owned_item c.args.position c.place_of-owned.result c.args.place es es rs c.index_mut-edit.result.now c.item_mut.result.now
            owned c.index_mut-edit.ensures.value c.item_mut.ensures.value (omega (
              arith,
              c.requires.instance,
              ap (λ (v : OverlayValue). instances_at c.args.position v.runs) c.self.view_is,
              owned_instances c.args.position c.place_of-owned.result es es rs c.index_mut-edit.result.now owned c.index_mut-edit.ensures.value,
            )));
      },
    )
