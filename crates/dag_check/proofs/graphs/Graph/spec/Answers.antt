use Rattle.std.proofs.Common.{subst}
use Rattle.dag_check.specs.Graphs.{Dag, IsGraphOf}
use Rattle.dag_check.proofs.GraphLemmas.{graph-of}
use Rattle.dag_check.proofs.graphs.Graph.spec.Goals as goal

pub returns-clause-graph : goal.returns-clause-graph
returns-clause-graph c = subst (λ (g : Dag). IsGraphOf g.spec g) c.self.view_is (graph-of c.self.inside c.self.invariant)
