use Rattle.std.proofs.Common.{◌∙◌, ◌++◌, ◌∷◌, [], cond, ℕ, List, refl, ap, sym, arith}
use Rattle.dag_check.specs.Orders.{is_in, repeated, edges_of}
use Rattle.dag_check.specs.Graphs.{passing}
use Rattle.dag_check.proofs.OrderLemmas.{at_row}
use Rattle.dag_check.proofs.RowLemmas.{passing-more}
use Rattle.dag_check.proofs.layouts.downstreams.Goals as goal

pub add_place-requires-clause-within : goal.add_place-requires-clause-within
add_place-requires-clause-within c y edge =
    let row = at_row c.args.rows.now c.loop-place.place c.index-rows-place.result c.loop-place-test.true c.index-rows-place.is in
    let inside = c.requires.within c.loop-place.place y c.loop-place-test.true (ap (λ (ys : List ℕ). is_in ys y) (row ∙ sym c.deref.ensures.value) ∙ edge) in
    omega (arith, inside, c.loop-place.invariant.long)

pub add_place-requires-clause-once : goal.add_place-requires-clause-once
add_place-requires-clause-once c =
    let row = at_row c.args.rows.now c.loop-place.place c.index-rows-place.result c.loop-place-test.true c.index-rows-place.is in
    ap repeated (c.deref.ensures.value ∙ sym row) ∙ c.requires.once c.loop-place.place c.loop-place-test.true

pub loop-place-preserved : goal.loop-place-preserved
loop-place-preserved c =
    let i = c.loop-place.place in
    let row = at_row c.args.rows.now i c.index-rows-place.result c.loop-place-test.true c.index-rows-place.is in
    record {
      long = c.in_ok-add_place.ensures.len refl ∙ c.loop-place.invariant.long;
      rows = λ j.
          c.in_ok-add_place.ensures.rows refl j
          ∙ (ap (λ (xs : List ℕ). xs ++ cond (is_in c.deref.result.now j) (i ∷ []) []) (c.loop-place.invariant.rows j)
          ∙ (ap (λ (ys : List ℕ). passing (λ k. is_in (edges_of c.args.rows.now k) j) i ++ cond (is_in ys j) (i ∷ []) []) (c.deref.ensures.value ∙ sym row)
          ∙ sym (passing-more (λ k. is_in (edges_of c.args.rows.now k) j) i)));
    }
