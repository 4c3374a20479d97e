use Rattle.std.proofs.Common.{◌≡◌, ◌∙◌, ◌<◌, List, ℕ, true, false, length, get_or, ap, sym, arith, subst, Vec, Global}
use Rattle.std.proofs.lemmas.Result.{IfOk-weaker}
use Rattle.dag_check.specs.Orders.{is_in, edges_of, IsCycle}
use Rattle.dag_check.specs.Searches.{marked, IsTurned}
use Rattle.dag_check.proofs.OrderLemmas.{at_row, failing-fall, in-push}
use Rattle.dag_check.proofs.WalkLemmas.{IsWalk, walk-more, walk-end}
use Rattle.dag_check.proofs.cycles.cycle.Goals as goal

pub returns-in-Some : goal.returns-in-Some
returns-in-Some c =
    let inside : c.in-Some.from < length c.steps.walk.items = rw (← c.deref.ensures.value) c.in-Some.ensures.0 in
    let same : get_or c.steps.walk.items c.in-Some.from 0 ≡ c.steps.at = rw (← c.deref.ensures.value) c.in-Some.ensures.1 in
    IfOk-weaker c.turned.result (λ (v : Vec ℕ Global). IsTurned c.deref-in-Some.result.now c.in-Some.from v.items) (λ (v : Vec ℕ Global). IsCycle (edges_of c.args.up.now) (length c.args.up.now) v.items)
    (λ v t. walk-end (edges_of c.args.up.now) (marked c.args.placed.now) (length c.args.up.now) c.steps.walk.items c.steps.at c.in-Some.from v.items c.steps.invariant inside same (subst (λ (w : List ℕ). IsTurned w c.in-Some.from v.items) c.deref-in-Some.ensures.value t))
    c.turned.ensures

pub steps-smaller : goal.steps-smaller
steps-smaller c =
    let new : is_in c.steps.walk.items c.steps.at ≡ false = rw (← c.deref.ensures.value) c.in-None.ensures in
    let fall = failing-fall (is_in c.steps.walk.items) (is_in c.push.new.self.items) c.steps.at (length c.args.up.now) c.steps.invariant.inside new
    (λ y. ap (λ (w : List ℕ). is_in w y) c.in_ok-push-in-None.ensures.items ∙ in-push c.steps.walk.items c.steps.at y) in
    omega (arith, fall)

pub steps-preserved : goal.steps-preserved
steps-preserved c =
    let new : is_in c.steps.walk.items c.steps.at ≡ false = rw (← c.deref.ensures.value) c.in-None.ensures in
    let row = at_row c.args.up.now c.steps.at c.index-up-at.result c.steps.invariant.inside c.index-up-at.is in
    let edge : is_in (edges_of c.args.up.now c.steps.at) c.open_upstream-at.result ≡ true =
    ap (λ (ys : List ℕ). is_in ys c.open_upstream-at.result) (row ∙ sym c.deref-in-None.ensures.value) ∙ c.open_upstream-at.ensures.upstream in
    subst (λ (w : List ℕ). IsWalk (edges_of c.args.up.now) (marked c.args.placed.now) (length c.args.up.now) w c.open_upstream-at.result) (sym c.in_ok-push-in-None.ensures.items)
    (walk-more _ _ _ c.steps.walk.items c.steps.at c.open_upstream-at.result c.steps.invariant new
    (c.requires.within c.steps.at c.open_upstream-at.result c.steps.invariant.inside edge) c.open_upstream-at.ensures.open edge)
