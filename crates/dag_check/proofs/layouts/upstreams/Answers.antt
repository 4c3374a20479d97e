use Rattle.std.proofs.Common.{◌≡◌, ◌∙◌, ◌<◌, ◌++◌, ◌∷◌, [], ℕ, List, length, get_or, take, map, ap, sym, arith, Vec, Global, slice_index}
use Rattle.std.proofs.lemmas.List.{take_more, map-append}
use Rattle.dag_check.specs.Orders.{edges_of, place_in}
use Rattle.dag_check.proofs.OrderLemmas.{at_row}
use Rattle.dag_check.proofs.PlainLemmas.{map-in}
use Rattle.dag_check.proofs.layouts.upstreams.Goals as goal

pub loop-position-preserved : goal.loop-position-preserved
loop-position-preserved c =
    let i = c.loop-position.position-index in
    let below : i < length c.args.rows.now = omega (arith, c.loop-position-test.true, c.requires.placed.long) in
    let p = get_or c.args.order.now i 0 in
    let inside = c.requires.placed.within i below in
    let row : edges_of c.args.rows.now p ≡ c.deref-in-loop-position.result.now = at_row c.args.rows.now p c.index-rows-position.result inside c.index-rows-position.is ∙ sym c.deref-in-loop-position.ensures.value in
    let found = c.in_ok-row.ensures in
    let same = map-in (slice_index c.in_ok-places.places.items) (place_in c.args.order.now) (edges_of c.args.rows.now p)
    (λ y edge. c.in_ok-places.ensures.places y (c.requires.placed.whole y (c.requires.below p y inside edge))) in
    let made : c.in_ok-row.row.items ≡ map (place_in c.args.order.now) (edges_of c.args.rows.now p) =
    found ∙ (ap (λ (t : List ℕ). map (slice_index t) c.deref-in-loop-position.result.now) c.deref.ensures.value ∙ (ap (map (slice_index c.in_ok-places.places.items)) (sym row) ∙ same)) in
    let f = λ (q : ℕ). map (place_in c.args.order.now) (edges_of c.args.rows.now q) in
    ap (map (λ (r : Vec ℕ Global). r.items)) c.in_ok-push.ensures.items
    ∙ (map-append (λ (r : Vec ℕ Global). r.items) c.loop-position.placed.items (c.in_ok-row.row ∷ [])
    ∙ (ap (λ (xs : List (List ℕ)). xs ++ c.in_ok-row.row.items ∷ []) c.loop-position.invariant
    ∙ (ap (λ (x : List ℕ). map f (take i c.args.order.now) ++ x ∷ []) made
    ∙ sym (ap (map f) (take_more c.args.order.now i 0 c.loop-position-test.true) ∙ map-append f (take i c.args.order.now) (p ∷ [])))))
