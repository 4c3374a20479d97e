use Rattle.std.proofs.Common.{◌∙◌, ℕ, List, sym, ap, below_more}
use Rattle.dag_check.specs.Orders.{is_in, repeated}
use Rattle.dag_check.proofs.OrderLemmas.{at_row}
use Rattle.dag_check.proofs.positions.first_repeated.Goals as goal

pub is_repeated-requires : goal.is_repeated-requires
is_repeated-requires c y edge =
    let e = at_row c.args.rows.now c.loop-i.i c.index-rows-i.result c.loop-i-test.true c.index-rows-i.is in
    c.requires c.loop-i.i y c.loop-i-test.true (ap (λ (ys : List ℕ). is_in ys y) (e ∙ sym c.deref.ensures.value) ∙ edge)

pub loop-i-preserved : goal.loop-i-preserved
loop-i-preserved c =
    let e = at_row c.args.rows.now c.loop-i.i c.index-rows-i.result c.loop-i-test.true c.index-rows-i.is in
    below_more _ _ c.loop-i.invariant (ap repeated (e ∙ sym c.deref.ensures.value) ∙ (sym c.in_ok-is_repeated.ensures ∙ c.if-branch.false))
