use Rattle.std.proofs.Common.{◌≡◌, ◌∙◌, ◌<◌, ℕ, false, List, Vec, Global, length, ap, sym, subst, arith}
use Rattle.dag_check.specs.Orders.{repeated, edges_of, AllBelow}
use Rattle.dag_check.specs.Graphs.{placed_rows, downs_in}
use Rattle.dag_check.proofs.RowLemmas.{placed-long, placed-below, placed-once}
use Rattle.dag_check.proofs.layouts.placed.Goals as goal

pub downstreams-requires-clause-within : goal.downstreams-requires-clause-within
downstreams-requires-clause-within c =
    let up = edges_of c.args.rows.now in
    let rows = c.in_ok-ups.ensures ∙ ap (placed_rows up) c.deref.ensures.value in
    subst (λ (rs : List (Vec ℕ Global)). AllBelow (edges_of rs) (length rs)) (sym c.deref-2.ensures.value)
    (placed-below up (length c.args.rows.now) c.args.order.items c.in_ok-ups.ups.items c.requires.placed rows)

pub downstreams-requires-clause-once : goal.downstreams-requires-clause-once
downstreams-requires-clause-once c =
    let up = edges_of c.args.rows.now in
    let rows = c.in_ok-ups.ensures ∙ ap (placed_rows up) c.deref.ensures.value in
    subst (λ (rs : List (Vec ℕ Global)). (k : ℕ) → k < length rs → repeated (edges_of rs k) ≡ false) (sym c.deref-2.ensures.value)
    (placed-once up (length c.args.rows.now) c.args.order.items c.in_ok-ups.ups.items c.requires.placed rows c.requires.below c.requires.once)

pub returns : goal.returns
returns c =
    let up = edges_of c.args.rows.now in
    let rows = c.in_ok-ups.ensures ∙ ap (placed_rows up) c.deref.ensures.value in
    let long = placed-long up (length c.args.rows.now) c.args.order.items c.in_ok-ups.ups.items c.requires.placed rows in
    let same = ap (λ (rs : List (Vec ℕ Global)). length rs) c.deref-2.ensures.value in
    record {
      placement = c.requires.placed;
      ups_are = rows;
      long = long;
      downs_long = let l = c.in_ok-downs.ensures.len in let o = c.in_ok-downs.downs.ok.0 in omega arith;
      downs_are = λ j below.
          c.in_ok-downs.ensures.rows j
          ∙ (ap (λ (rs : List (Vec ℕ Global)). downs_in (edges_of rs) (length rs) j) c.deref-2.ensures.value ∙ ap (λ (m : ℕ). downs_in (edges_of c.in_ok-ups.ups.items) m j) long);
    }
