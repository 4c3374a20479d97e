use Rattle.dag_check.proofs.laws.a_graph_is_acyclic.Goals as goal

pub returns : goal.returns
returns c g dag = (λ k. k, λ i u below edge. dag.down i u edge)
