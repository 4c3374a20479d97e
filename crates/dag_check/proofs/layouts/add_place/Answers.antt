use Rattle.std.proofs.Common.{◌∙◌, ◌<◌, ◌++◌, ◌∷◌, [], ℕ, List, length, get_or, ap, sym, arith}
use Rattle.dag_check.specs.Orders.{edges_of}
use Rattle.dag_check.proofs.OrderLemmas.{in-at, at_row}
use Rattle.dag_check.proofs.RowLemmas.{add-step}
use Rattle.dag_check.proofs.layouts.add_place.Goals as goal

pub index_mut-requires : goal.index_mut-requires
index_mut-requires c =
    let i = c.loop-upstream.upstream-index in
    omega (arith, c.requires.within (get_or c.args.upstreams.now i 0) (in-at c.args.upstreams.now i c.loop-upstream-test.true), c.loop-upstream.invariant.long)

pub loop-upstream-preserved : goal.loop-upstream-preserved
loop-upstream-preserved c =
    let i = c.loop-upstream.upstream-index in
    let u = get_or c.args.upstreams.now i 0 in
    let inside : u < length c.loop-upstream.found.items = omega (arith, c.requires.within u (in-at c.args.upstreams.now i c.loop-upstream-test.true), c.loop-upstream.invariant.long, c.loop-upstream.found.ok.0) in
    let row = at_row c.loop-upstream.found.items u c.index_mut.result.now inside c.index_mut.ensures.value in
    record {
      long = c.loop-upstream.invariant.long;
      rows = add-step c.loop-upstream.found.items (edges_of c.args.found.now.items) c.args.upstreams.now i c.args.place c.push.new.self c.loop-upstream-test.true inside c.requires.once
          (c.in_ok-push.ensures.items ∙ ap (λ (xs : List ℕ). xs ++ c.args.place ∷ []) (sym row)) c.loop-upstream.invariant.rows;
    }
