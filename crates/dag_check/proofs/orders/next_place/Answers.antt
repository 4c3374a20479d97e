use Rattle.std.proofs.Common.{◌∙◌, List, ℕ, ap, sym, arith}
use Rattle.dag_check.specs.Orders.{is_in}
use Rattle.dag_check.proofs.OrderLemmas.{at_row}
use Rattle.dag_check.proofs.orders.next_place.Goals as goal

pub all_marked-requires : goal.all_marked-requires
all_marked-requires c y edge =
    let e = at_row c.args.up.now c.loop-i.i c.index-up-i.result c.loop-i-test.true c.index-up-i.is in
    let lower = c.requires.within c.loop-i.i y c.loop-i-test.true (ap (λ (ys : List ℕ). is_in ys y) (e ∙ sym c.deref.ensures.value) ∙ edge) in
    omega (arith, lower, c.requires.long)
