use Rattle.std.proofs.Common.{◌≡◌, ◌∙◌, ◌<◌, ◌+◌, ◌++◌, ◌∷◌, [], not, List, ℕ, Bool, true, false, is_ok, length, ap, sym, arith, subst, set, replicate, vec_len, rules}
use Rattle.std.proofs.lemmas.Bool.{cond-true}
use Rattle.dag_check.specs.Orders.{edges_of, IsFirst, may_come}
use Rattle.dag_check.specs.Searches.{marked}
use Rattle.dag_check.proofs.OrderLemmas.{IsPartial, partial-start, partial-more, partial-end, marked-none, marked-set}
use Rattle.dag_check.proofs.orders.order.Goals as goal

pub places-init : goal.places-init
places-init c = record {
  long = c.in-Ok.ensures.len;
  count = c.in-Ok-with_capacity.ensures.len;
  partial =
      let none : c.in-Ok.placed.items ≡ replicate (length c.args.up.now) false = c.in-Ok.ensures.items_if_clones_equal (search rules) in
      subst (λ (xs : List ℕ). IsPartial (edges_of c.args.up.now) (length c.args.up.now) xs (marked c.in-Ok.placed.items)) (sym c.in-Ok-with_capacity.ensures.items)
      (partial-start _ _ (marked c.in-Ok.placed.items) (λ y. ap (λ (m : List Bool). marked m y) none ∙ marked-none (length c.args.up.now) y));
}

pub places-preserved : goal.places-preserved
places-preserved c =
    let pushed : is_ok c.push.result ≡ true = c.is_err.ensures.negation ∙ ap not c.if-is_err.false in
    let items : c.push.new.self.items ≡ c.places.order.items ++ c.in-Some.i ∷ [] = c.push.ensures.items ∙ cond-true (is_ok c.push.result) _ _ pushed in
    let len : vec_len c.push.new.self ≡ vec_len c.places.order + 1 = c.push.ensures.len ∙ cond-true (is_ok c.push.result) _ _ pushed in
    let inside : c.in-Some.i < length c.places.placed.items = omega (arith, c.in-Some.ensures.0, c.places.invariant.long, c.places.placed.ok.0) in
    let first = subst (λ (m : List Bool). IsFirst (may_come (edges_of c.args.up.now) (marked m)) c.in-Some.i) c.deref.ensures.value c.in-Some.ensures.1 in
    record {
      long = c.places.invariant.long;
      count = len ∙ ap (λ n. n + 1) c.places.invariant.count;
      partial = subst (λ (xs : List ℕ). IsPartial (edges_of c.args.up.now) (length c.args.up.now) xs (marked (set c.places.placed.items c.in-Some.i true))) (sym items)
          (partial-more _ _ c.places.order.items (marked c.places.placed.items) (marked (set c.places.placed.items c.in-Some.i true)) c.in-Some.i c.places.invariant.partial c.in-Some.ensures.0 first (λ y. marked-set c.places.placed.items c.in-Some.i y inside));
    }

pub returns-clause-placed : goal.returns-clause-placed
returns-clause-placed c = partial-end _ _ _ _ c.places.invariant.partial (omega (arith, c.places.invariant.count, c.places.order.ok.0, c.places-test.false, c.places.auto._place-end))
