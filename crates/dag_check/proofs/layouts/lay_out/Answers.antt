use Rattle.std.proofs.Common.{ℕ, List, Vec, Global, length, subst, subst₂, sym}
use Rattle.dag_check.specs.Orders.{repeated, AllBelow, edges_of, IsCycle}
use Rattle.dag_check.proofs.LawLemmas.{cycle-refutes}
use Rattle.dag_check.specs.Names.{NoneBelow}
use Rattle.dag_check.specs.Layouts.{IsLayout}
use Rattle.dag_check.proofs.PlainLemmas.{rows-below, rows-up, rows-long}
use Rattle.dag_check.proofs.RowLemmas.{rows-once}
use Rattle.dag_check.proofs.layouts.lay_out.Goals as goal

pub order-requires : goal.order-requires
order-requires c =
    subst (λ (rs : List (Vec ℕ Global)). AllBelow (edges_of rs) (length rs)) (sym c.deref.ensures.value)
    (rows-below c.args.tasks.now c.in-Ok.rows.items c.in-Ok.ensures.ok.0 c.in-Ok.ensures.ok.1.known)

pub placed-requires-clause-below : goal.placed-requires-clause-below
placed-requires-clause-below c =
    subst (λ (rs : List (Vec ℕ Global)). AllBelow (edges_of rs) (length rs)) (sym c.deref-in-Ok-order.ensures.value)
    (rows-below c.args.tasks.now c.in-Ok.rows.items c.in-Ok.ensures.ok.0 c.in-Ok.ensures.ok.1.known)

pub placed-requires-clause-once : goal.placed-requires-clause-once
placed-requires-clause-once c =
    subst (λ (rs : List (Vec ℕ Global)). NoneBelow (λ i. repeated (edges_of rs i)) (length rs)) (sym c.deref-in-Ok-order.ensures.value)
    (rows-once c.args.tasks.now c.in-Ok.rows.items c.in-Ok.ensures.ok.0 c.in-Ok.ensures.ok.1)

pub returns-in-Ok-placed-clause-ok : goal.returns-in-Ok-placed-clause-ok
returns-in-Ok-placed-clause-ok c =
    let laid = subst (λ (rs : List (Vec ℕ Global)). IsLayout (edges_of rs) (length rs) c.in-Ok-placed.layout) c.deref-in-Ok-order.ensures.value c.in-Ok-placed.ensures in (
      c.in-Ok.ensures.ok.1,
      subst₂ (λ (up : ℕ → List ℕ) (n : ℕ). IsLayout up n c.in-Ok-placed.layout) (rows-up c.args.tasks.now c.in-Ok.rows.items c.in-Ok.ensures.ok.0) (rows-long c.args.tasks.now c.in-Ok.rows.items c.in-Ok.ensures.ok.0) laid,
    )

pub returns-in-Ok-names_at-clause-fault : goal.returns-in-Ok-names_at-clause-fault
returns-in-Ok-names_at-clause-fault c =
    let stuck = rw c.in-Err-Cycle.field-0-is at c.in-Err-Cycle.ensures.stuck in
    let walk = subst (λ (rs : List (Vec ℕ Global)). IsCycle (edges_of rs) (length rs) c.in-Err-Cycle.walk.items) c.deref.ensures.value stuck in
    let cycle = subst₂ (λ (up : ℕ → List ℕ) (n : ℕ). IsCycle up n c.in-Err-Cycle.walk.items) (rows-up c.args.tasks.now c.in-Ok.rows.items c.in-Ok.ensures.ok.0) (rows-long c.args.tasks.now c.in-Ok.rows.items c.in-Ok.ensures.ok.0) walk in
    record {
      plain = c.in-Ok.ensures.ok.1;
      walk = c.in-Err-Cycle.walk.items;
      cycle = cycle;
      names_are = rw c.deref-in-Err-Cycle.ensures.value at c.in-Ok-names_at.ensures;
      not_acyclic = cycle-refutes _ _ _ cycle;
    }
