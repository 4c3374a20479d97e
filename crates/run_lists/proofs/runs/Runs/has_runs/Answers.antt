use Rattle.std.proofs.Common.{◌∙◌, ◌≤◌, sym, subst, ℕ, length, arith}
use Rattle.std.proofs.lemmas.Bool.Decides.{nat_tests}
use Rattle.run_lists.specs.Orders.{IsPositionFrom}
use Rattle.run_lists.proofs.SearchLemmas.{graph_past, graph_there}
use Rattle.run_lists.proofs.SpanLemmas.{first_is}
use Rattle.run_lists.proofs.runs.Runs.has_runs.Goals as goal

pub returns-then-first-len : goal.returns-then-first-len
returns-then-first-len c =
    let first = first_is c.args.graph.now c.args.self.now.runs c.position_from-first.result
    (subst (λ (d : ℕ). IsPositionFrom c.args.graph.now d c.args.self.now.runs c.position_from-first.result) c.at.ensures c.position_from-first.ensures) in
    graph_there c.args.graph.now c.args.self.now.runs c.position_from-first.result c.get.result.now c.eq.result c.requires first c.get.ensures c.eq.ensures

pub returns-else-first-len : goal.returns-else-first-len
returns-else-first-len c =
    let first = first_is c.args.graph.now c.args.self.now.runs c.position_from-first.result
    (subst (λ (d : ℕ). IsPositionFrom c.args.graph.now d c.args.self.now.runs c.position_from-first.result) c.at.ensures c.position_from-first.ensures) in
    let long : length c.args.self.now.runs ≤ c.position_from-first.result = omega (arith, c.len.ensures.len, c.if-first-len.false) in
    grind (arith, nat_tests, long, c.len.ensures.len) ∙ sym (graph_past c.args.graph.now c.args.self.now.runs c.position_from-first.result first long)
