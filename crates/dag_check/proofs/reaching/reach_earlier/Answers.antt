use Rattle.std.proofs.Common.{◌≡◌, ◌∙◌, ◌-◌, ◌<◌, ◌+◌, ◌||◌, ℕ, Bool, false, List, [], length, map, get_or, ap, sym, arith, Vec, Global}
use Rattle.std.proofs.Common.{subst}
use Rattle.std.proofs.lemmas.Bool.{eq-eqb, or_right}
use Rattle.std.proofs.lemmas.List.{get_or-map, get_or_default}
use Rattle.dag_check.specs.Orders.{is_in}
use Rattle.dag_check.proofs.ReachLemmas.{IsMarking, marking-on}
use Rattle.dag_check.proofs.reaching.reach_earlier.Goals as goal
use Rattle.dag_check.proofs.reaching.reach_earlier.Goals.{then-place-start-via-then-place-start, then-place-start-via-else-place-start+then-index}

-- the neighbours of a place, as they are read
at_place : (next : List (Vec ℕ Global)) (i : ℕ) (v : Vec ℕ Global) → i < length next → v ≡ get_or next i v → get_or (map (λ v. v.items) next) i [] ≡ v.items
at_place next i v below is = get_or-map (λ v. v.items) next i v [] below ∙ ap (λ (w : Vec ℕ Global). w.items) (sym is)

pub mark_all-requires : goal.mark_all-requires
mark_all-requires c y edge =
    let below : c.loop-place.place - 1 < length c.args.next.now = omega (arith, c.requires.start_in) in
    let e = at_place c.args.next.now (c.loop-place.place - 1) c.index-next-place.result below c.index-next-place.is in
    let lower = c.requires.down (c.loop-place.place - 1) y (ap (λ (ys : List ℕ). is_in ys y) (e ∙ sym c.deref.ensures.value) ∙ edge) in
    omega (arith, lower, c.loop-place.invariant.long)

pub loop-place-preserved-in-loop-place : goal.loop-place-preserved-in-loop-place
loop-place-preserved-in-loop-place c =
    let below : c.loop-place.place - 1 < length c.args.next.now = omega (arith, c.requires.start_in) in
    let e = at_place c.args.next.now (c.loop-place.place - 1) c.index-next-place.result below c.index-next-place.is in
    let one : c.loop-place.place ≡ (c.loop-place.place - 1) + 1 = omega arith in
    record {
      long = omega (arith, c.mark_all.ensures.len, c.loop-place.invariant.long);
      within = omega arith;
      marking = marking-on (λ j. get_or (map (λ v. v.items) c.args.next.now) j []) c.args.start (c.loop-place.place - 1) (λ y. get_or c.loop-place.marks.items y false) (λ y. get_or c.mark_all.new.marks.items y false) c.requires.down (omega arith)
          (subst (λ (n : ℕ). IsMarking (λ j. get_or (map (λ v. v.items) c.args.next.now) j []) c.args.start n (λ y. get_or c.loop-place.marks.items y false)) one c.loop-place.invariant.marking)
          (elim c.then-place-start.branch [
            | then-place-start-via-then-place-start w ↦ ap (λ (b : Bool). b || get_or c.loop-place.marks.items (c.loop-place.place - 1) false) (eq-eqb _ _ w.if-place-start.true)
            | then-place-start-via-else-place-start+then-index w ↦ or_right _ _ (get_or_default c.loop-place.marks.items (c.loop-place.place - 1) false w.index.result.now (omega (arith, c.loop-place.marks.ok.0, c.loop-place.invariant.long)) ∙ (sym w.index.ensures ∙ w.if-index.true))
          ])
          (λ y. c.mark_all.ensures.marks y ∙ ap (λ (ys : List ℕ). get_or c.loop-place.marks.items y false || is_in ys y) (c.deref.ensures.value ∙ sym e));
    }
