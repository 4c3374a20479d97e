use Rattle.std.proofs.Common.{◌≡◌, ◌∙◌, ℕ, Bool, List, length, ap, sym, subst, Vec, Global, vec_len}
use Rattle.std.proofs.lemmas.Result.{IfOk-weaker}
use Rattle.dag_check.specs.Orders.{edges_of}
use Rattle.dag_check.specs.Searches.{marked}
use Rattle.dag_check.specs.Graphs.{Dag, passing}
use Rattle.dag_check.specs.Reach.{IsReach, LeadsDown, LeadsUp}
use Rattle.dag_check.specs.Reach.{IsReached}
use Rattle.dag_check.specs.Layouts.{dag_inside}
use Rattle.dag_check.specs.declared.graphs.Direction.{Direction}
use Rattle.dag_check.specs.declared.graphs.Direction.TheVariants.{Upstream, Downstream}
use Rattle.dag_check.proofs.GraphLemmas.{rows-same, back-same, ups-down, downs-all, downs-up, reached-of, tasks-long}
use Rattle.dag_check.proofs.graphs.Graph.reach.Goals as goal

pub reach_earlier-requires-clause-down : goal.reach_earlier-requires-clause-down
reach_earlier-requires-clause-down c =
    subst (λ (rs : List (Vec ℕ Global)). LeadsDown (edges_of rs)) (sym c.deref.ensures.value) (ups-down c.self.inside c.self.invariant)

pub reach_later-requires-clause-up : goal.reach_later-requires-clause-up
reach_later-requires-clause-up c =
    subst (λ (rs : List (Vec ℕ Global)). LeadsUp (edges_of rs) (length rs)) (sym c.deref-in-Downstream.ensures.value) (downs-up c.self.inside c.self.invariant)

pub returns-in_ok-marks-in-Upstream : goal.returns-in_ok-marks-in-Upstream
returns-in_ok-marks-in-Upstream c =
    let marks = c.in_ok-marks-in-Upstream.marks in
    let rows = c.deref.ensures.value in
    let reach = subst (λ (rs : List (Vec ℕ Global)). IsReach (edges_of rs) c.args.place (marked marks.items)) rows c.in_ok-marks-in-Upstream.ensures.reach in
    let long : vec_len marks ≡ length (dag_inside c.self.inside).tasks = c.in_ok-marks-in-Upstream.ensures.len ∙ (ap (λ (rs : List (Vec ℕ Global)). length rs) rows ∙ (rows-same c.self.inside c.self.invariant ∙ sym (tasks-long c.self.inside))) in
    IfOk-weaker c.rising.result (λ (v : Vec ℕ Global). v.items ≡ passing (marked c.deref-in-Upstream.result.now) (length c.deref-in-Upstream.result.now)) (λ (v : Vec ℕ Global). IsReached c.args.self.now c.args.direction c.args.place v.items)
    (λ v e.
    subst (λ (g : Dag). IsReached g c.args.direction c.args.place v.items) c.self.view_is
    (subst (λ (d : Direction). IsReached (dag_inside c.self.inside) d c.args.place v.items) (sym c.in-Upstream.is)
    (reached-of c.self.inside Upstream c.args.place marks v.items long reach (e ∙ ap (λ (m : List Bool). passing (marked m) (length m)) c.deref-in-Upstream.ensures.value))))
    c.rising.ensures

pub returns-in_ok-marks-in-Downstream : goal.returns-in_ok-marks-in-Downstream
returns-in_ok-marks-in-Downstream c =
    let marks = c.in_ok-marks-in-Downstream.marks in
    let rows = c.deref-in-Downstream.ensures.value in
    let reach' = subst (λ (rs : List (Vec ℕ Global)). IsReach (edges_of rs) c.args.place (marked marks.items)) rows c.in_ok-marks-in-Downstream.ensures.reach in
    let reach = subst (λ (next : ℕ → List ℕ). IsReach next c.args.place (marked marks.items)) (downs-all c.self.inside c.self.invariant) reach' in
    let long : vec_len marks ≡ length (dag_inside c.self.inside).tasks = c.in_ok-marks-in-Downstream.ensures.len ∙ (ap (λ (rs : List (Vec ℕ Global)). length rs) rows ∙ (back-same c.self.inside c.self.invariant ∙ sym (tasks-long c.self.inside))) in
    IfOk-weaker c.rising-in-Downstream.result (λ (v : Vec ℕ Global). v.items ≡ passing (marked c.deref-in-Downstream-2.result.now) (length c.deref-in-Downstream-2.result.now)) (λ (v : Vec ℕ Global). IsReached c.args.self.now c.args.direction c.args.place v.items)
    (λ v e.
    subst (λ (g : Dag). IsReached g c.args.direction c.args.place v.items) c.self.view_is
    (subst (λ (d : Direction). IsReached (dag_inside c.self.inside) d c.args.place v.items) (sym c.in-Downstream.is)
    (reached-of c.self.inside Downstream c.args.place marks v.items long reach (e ∙ ap (λ (m : List Bool). passing (marked m) (length m)) c.deref-in-Downstream-2.ensures.value))))
    c.rising-in-Downstream.ensures
