use Rattle.std.proofs.Common.{◌≡◌, sym, ap, ◌∙◌, Some, Option, List, Bool, rules, arith}
use Rattle.std.proofs.lemmas.Option.{get_or_from_slice_get}
use Rattle.graph_file.specs.declared.task_specs.TaskSpec.{TaskSpec}
use Rattle.dag_check.specs.Graphs.{no_task}
use Rattle.sched_state.specs.Lists.{same}
use Rattle.sched_state.proofs.ElementLemmas.{element_at}
use Rattle.record_restoring.proofs.SearchLemmas.{find_here, find_past}
use Rattle.record_restoring.proofs.finding.task_in.Goals as goal

pub returns-then-eq : goal.returns-then-eq
returns-then-eq c =
    let ts : List TaskSpec = c.args.graph.now.tasks in
    let q = element_at ts c.loop-place.place (omega (arith, c.len-place-end.ensures.len, c.loop-place-test.true)) in
    let own : c.task-task.result.now ≡ q.0 = c.task-task.ensures ∙ get_or_from_slice_get ts c.loop-place.place q.0 no_task q.1 in
    let p : TaskSpec → Bool = λ t. same t.task_id c.args.task_id.now in
    ap (λ (t : TaskSpec). let o : Option TaskSpec = Some t in o) own ∙ sym (find_here p ts c.loop-place.place q.0 c.loop-place.invariant q.1 (ap p (sym own) ∙ search (rules, c.eq.ensures, c.if-eq.true, c.as_str.ensures.text)))

pub loop-place-preserved : goal.loop-place-preserved
loop-place-preserved c =
    let ts : List TaskSpec = c.args.graph.now.tasks in
    let q = element_at ts c.loop-place.place (omega (arith, c.len-place-end.ensures.len, c.loop-place-test.true)) in
    let own : c.task-task.result.now ≡ q.0 = c.task-task.ensures ∙ get_or_from_slice_get ts c.loop-place.place q.0 no_task q.1 in
    let p : TaskSpec → Bool = λ t. same t.task_id c.args.task_id.now in
    find_past p ts c.loop-place.place q.0 c.loop-place.invariant q.1 (ap p (sym own) ∙ search (rules, c.eq.ensures, c.if-eq.false, c.as_str.ensures.text))
