use Rattle.std.proofs.Common.{◌≤◌, ◌∙◌, List, length, subst, sym, ap}
use Rattle.graph_file.specs.declared.task_specs.TaskSpec.{TaskSpec}
use Rattle.dag_check.specs.Graphs.{Dag, IsDag}
use Rattle.dag_check.proofs.GraphLemmas.{dag-inside, tasks-long}
use Rattle.dag_check.proofs.graphs.Graph.len.Goals as goal

pub returns-clause-len : goal.returns-clause-len
returns-clause-len c =
    ap (λ (ts : List TaskSpec). length ts) c.as_slice.ensures.tasks
    ∙ (sym c.self.invariant.layout.placement.long ∙ (sym (tasks-long c.self.inside) ∙ ap (λ (g : Dag). length g.tasks) c.self.view_is))

pub returns-clause-dag : goal.returns-clause-dag
returns-clause-dag c =
    subst IsDag c.self.view_is (dag-inside c.self.inside c.self.invariant (subst (λ (ts : List TaskSpec). length ts ≤ 256) c.as_slice.ensures.tasks c.as_slice.ensures.count.few))
