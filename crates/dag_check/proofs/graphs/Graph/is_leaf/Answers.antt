use Rattle.std.proofs.Common.{◌≡◌, ◌∙◌, ◌<◌, ◌==◌, ℕ, List, length, subst, sym, ap, arith}
use Rattle.dag_check.specs.Orders.{edges_of}
use Rattle.dag_check.proofs.OrderLemmas.{at_row}
use Rattle.dag_check.specs.Graphs.{Dag, downs}
use Rattle.dag_check.specs.Layouts.{dag_inside}
use Rattle.dag_check.proofs.GraphLemmas.{back-same, downs-read, tasks-long}
use Rattle.dag_check.proofs.graphs.Graph.is_leaf.Goals as goal

pub returns : goal.returns
returns c =
    let below : c.args.place < length (dag_inside c.self.inside).tasks = subst (λ (g : Dag). c.args.place < length g.tasks) (sym c.self.view_is) c.requires in
    let row = at_row c.self.inside.layout.downstreams.items c.args.place c.index.result.now (omega (arith, tasks-long c.self.inside, below, back-same c.self.inside c.self.invariant)) c.index.ensures in
    let e = sym row ∙ subst (λ (g : Dag). edges_of c.self.inside.layout.downstreams.items c.args.place ≡ downs g c.args.place) c.self.view_is (downs-read c.self.inside c.args.place c.self.invariant below) in
    c.is_empty.ensures ∙ (ap (λ (n : ℕ). n == 0) c.index.result.now.ok.0 ∙ ap (λ (xs : List ℕ). length xs == 0) e)
