use Rattle.std.proofs.Common.{ℕ, List, Vec, Global, length, subst, sym}
use Rattle.dag_check.specs.Orders.{AllBelow, edges_of, repeated}
use Rattle.dag_check.specs.Names.{NoneBelow, FirstBelow}
use Rattle.dag_check.proofs.PlainLemmas.{rows-below, none-double, first-double}
use Rattle.dag_check.proofs.layouts.edges.Goals as goal

pub first_repeated-requires : goal.first_repeated-requires
first_repeated-requires c =
    subst (λ (rs : List (Vec ℕ Global)). AllBelow (edges_of rs) (length rs)) (sym c.deref.ensures.value)
    (rows-below c.args.tasks.now c.in-Ok-rows.rows.items c.in-Ok-rows.ensures.rows.0 c.in-Ok-rows.ensures.rows.1)

pub returns-in-Ok-None-clause-ok : goal.returns-in-Ok-None-clause-ok
returns-in-Ok-None-clause-ok c =
    let found = rw c.in-Ok-None.field-0-is at c.in-Ok-None.ensures in
    let once = subst (λ (rs : List (Vec ℕ Global)). NoneBelow (λ i. repeated (edges_of rs i)) (length rs)) c.deref.ensures.value found in
    let made = c.in-Ok-rows.ensures.rows in
    (made.0, record { names = c.in-Ok.ensures.ids.1; known = made.1; edges = none-double c.args.tasks.now c.in-Ok-rows.rows.items made.0 made.1 once })

pub returns-in-Ok-Some-clause-fault : goal.returns-in-Ok-Some-clause-fault
returns-in-Ok-Some-clause-fault c =
    let found = rw c.in-Ok-Some.field-0-is at c.in-Ok-Some.ensures in
    let first = subst (λ (rs : List (Vec ℕ Global)). FirstBelow (λ i. repeated (edges_of rs i)) (length rs) c.in-Ok-Some.i) c.deref.ensures.value found in
    let made = c.in-Ok-rows.ensures.rows in
    (c.in-Ok.ensures.ids.1, made.1, first-double c.args.tasks.now c.in-Ok-rows.rows.items c.in-Ok-Some.i made.0 made.1 first)
