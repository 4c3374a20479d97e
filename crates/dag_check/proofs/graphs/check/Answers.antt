use Rattle.std.proofs.Common.{List, length, subst}
use Rattle.graph_file.specs.declared.task_specs.TaskSpec.{TaskSpec}
use Rattle.dag_check.specs.Names.{up_of, IsPlain}
use Rattle.dag_check.specs.Layouts.{IsLayout}
use Rattle.dag_check.proofs.GraphLemmas.{inside-of, sound-of, graph-of}
use Rattle.dag_check.proofs.graphs.check.Goals as goal

pub invariant_of-result : goal.invariant_of-result
invariant_of-result c =
    sound-of c.args.spec c.in-Ok.layout (subst IsPlain c.as_slice.ensures.tasks c.in-Ok.ensures.ok.0)
    (subst (λ (ts : List TaskSpec). IsLayout (up_of ts) (length ts) c.in-Ok.layout) c.as_slice.ensures.tasks c.in-Ok.ensures.ok.1)

pub returns-in-Ok-clause-ok : goal.returns-in-Ok-clause-ok
returns-in-Ok-clause-ok c =
    graph-of (inside-of c.args.spec c.in-Ok.layout) (sound-of c.args.spec c.in-Ok.layout (subst IsPlain c.as_slice.ensures.tasks c.in-Ok.ensures.ok.0)
    (subst (λ (ts : List TaskSpec). IsLayout (up_of ts) (length ts) c.in-Ok.layout) c.as_slice.ensures.tasks c.in-Ok.ensures.ok.1))
