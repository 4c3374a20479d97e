use Rattle.std.proofs.Common.{◌≡◌, ◌∙◌, ◌<◌, ◌+◌, ◌==◌, ◌||◌, ℕ, Bool, true, false, List, length, get_or, ap, sym, arith, subst, Vec, Global, vec_len}
use Rattle.std.proofs.lemmas.Bool.{eq-eqb, ne_eqb, or_left, or_right, or_from}
use Rattle.std.proofs.lemmas.List.{get_or_default}
use Rattle.dag_check.specs.Orders.{is_in, edges_of}
use Rattle.dag_check.specs.Searches.{marked}
use Rattle.dag_check.proofs.OrderLemmas.{at_row}
use Rattle.dag_check.proofs.ReachLemmas.{IsMarkingUp, up-on, up-off}
use Rattle.dag_check.proofs.reaching.reach_later.Goals as goal
use Rattle.dag_check.proofs.reaching.reach_later.Goals.{then-place-start, then-place-start-via-then-place-start, then-place-start-via-else-place-start+then-index, else-place-start+else-index}

pub mark_all-requires : goal.mark_all-requires
mark_all-requires c y edge =
    let e = at_row c.args.next.now c.loop-place.place c.index-next-place.result c.loop-place-test.true c.index-next-place.is in
    let inside = c.requires.up c.loop-place.place y (ap (λ (ys : List ℕ). is_in ys y) (e ∙ sym c.deref.ensures.value) ∙ edge) in
    omega (arith, inside.1, c.loop-place.invariant.long)

-- what is read is what the marks say
read : (marks : Vec Bool Global) (n i : ℕ) (b r : Bool) → i < n → vec_len marks ≡ n → b ≡ get_or marks.items i b → b ≡ r → marked marks.items i ≡ r
read marks n i b r below long is e = get_or_default marks.items i false b (omega (arith, marks.ok.0)) ∙ (sym is ∙ e)

pub loop-place-preserved : goal.loop-place-preserved
loop-place-preserved c =
    let i = c.loop-place.place in
    let below = c.loop-place-test.true in
    let long = c.loop-place.invariant.long in
    let from = c.loop-place.auto.place in
    elim c.if-place-start.branch [
      | then-place-start w ↦
          let row = at_row c.args.next.now i w.index-next-place.result below w.index-next-place.is in
          let on : (i == c.args.start) || marked c.loop-place.marks.items i ≡ true = elim w.then-place-start.branch [
            | then-place-start-via-then-place-start v ↦ or_left _ _ (eq-eqb _ _ v.if-place-start.true)
            | then-place-start-via-else-place-start+then-index v ↦ or_right _ _ (read c.loop-place.marks (length c.args.next.now) i v.index.result.now true below long v.index.ensures v.if-index.true)
          ] in
          record {
            long = ap vec_len w.marks-is ∙ (w.mark_all.ensures.len ∙ long);
            marking = subst (λ (v : Vec Bool Global). IsMarkingUp (edges_of c.args.next.now) c.args.start (i + 1) (marked v.items)) (sym w.marks-is)
                (up-on (edges_of c.args.next.now) c.args.start i (length c.args.next.now) (marked c.loop-place.marks.items) (marked w.mark_all.new.marks.items) c.requires.up from c.loop-place.invariant.marking on
                (λ y. w.mark_all.ensures.marks y ∙ ap (λ (ys : List ℕ). marked c.loop-place.marks.items y || is_in ys y) (w.deref.ensures.value ∙ sym row)));
          }
      | else-place-start+else-index w ↦
          record {
            long = ap vec_len w.marks-is ∙ long;
            marking = subst (λ (v : Vec Bool Global). IsMarkingUp (edges_of c.args.next.now) c.args.start (i + 1) (marked v.items)) (sym w.marks-is)
                (up-off (edges_of c.args.next.now) c.args.start i (marked c.loop-place.marks.items) c.loop-place.invariant.marking
                (or_from _ _ (ne_eqb _ _ w.if-place-start.false) (read c.loop-place.marks (length c.args.next.now) i w.index.result.now false below long w.index.ensures w.if-index.false)));
          }
    ]
