use Rattle.std.proofs.Common.{◌≡◌, ◌∙◌, ◌<◌, List, Some, None, position, length, subst, sym, ap, arith, get_or, below_more}
use Rattle.graph_file.specs.declared.task_specs.TaskSpec.{TaskSpec}
use Rattle.dag_check.specs.Names.{same}
use Rattle.dag_check.specs.Graphs.{Dag}
use Rattle.dag_check.specs.Layouts.{dag_inside}
use Rattle.dag_check.proofs.GraphLemmas.{task-read, tasks-long, position-some, position-none}
use Rattle.dag_check.proofs.graphs.Graph.place.Goals as goal

pub loop-place-preserved : goal.loop-place-preserved
loop-place-preserved c =
    let below : c.loop-place.place < length c.self.inside.layout.order.items = omega (arith, c.self.inside.layout.order.ok.0, c.len-place-end.ensures, c.loop-place-test.true) in
    let t = task-read c.self.inside c.loop-place.place c.index.result.now c.index-as_slice-index.result c.self.invariant below c.index.ensures (c.index-as_slice-index.is ∙ ap (λ (ts : List TaskSpec). get_or ts c.index.result.now c.index-as_slice-index.result) c.as_slice.ensures.tasks) in
    below_more _ _ c.loop-place.invariant (ap (λ (x : TaskSpec). same x.task_id c.args.name.now) (t ∙ c.index-as_slice-index.is) ∙ (sym c.eq.ensures ∙ c.if-eq.false))

pub returns-then-eq : goal.returns-then-eq
returns-then-eq c =
    let below : c.loop-place.place < length c.self.inside.layout.order.items = omega (arith, c.self.inside.layout.order.ok.0, c.len-place-end.ensures, c.loop-place-test.true) in
    let t = task-read c.self.inside c.loop-place.place c.index.result.now c.index-as_slice-index.result c.self.invariant below c.index.ensures (c.index-as_slice-index.is ∙ ap (λ (ts : List TaskSpec). get_or ts c.index.result.now c.index-as_slice-index.result) c.as_slice.ensures.tasks) in
    subst (λ (g : Dag). Some c.loop-place.place ≡ position (λ (t : TaskSpec). same t.task_id c.args.name.now) g.tasks) c.self.view_is
    (position-some (λ (t : TaskSpec). same t.task_id c.args.name.now) (dag_inside c.self.inside).tasks c.loop-place.place (omega (arith, tasks-long c.self.inside, below)) c.loop-place.invariant
    (ap (λ (x : TaskSpec). same x.task_id c.args.name.now) (t ∙ c.index-as_slice-index.is) ∙ (sym c.eq.ensures ∙ c.if-eq.true)))

pub returns : goal.returns
returns c =
    subst (λ (g : Dag). None ≡ position (λ (t : TaskSpec). same t.task_id c.args.name.now) g.tasks) c.self.view_is
    (position-none (λ (t : TaskSpec). same t.task_id c.args.name.now) (dag_inside c.self.inside).tasks (λ k below. c.loop-place.invariant k (omega (arith, c.self.inside.layout.order.ok.0, c.len-place-end.ensures, c.loop-place-test.false, below, tasks-long c.self.inside))))
