use Rattle.std.proofs.Common.{◌≡◌, sym, ap, ◌∙◌, List, Bool, Some, slice_get, arith}
use Rattle.std.proofs.lemmas.Option.{get_or_from_slice_get}
use Rattle.graph_file.specs.declared.task_specs.TaskSpec.{TaskSpec}
use Rattle.dag_check.specs.Graphs.{Dag, no_task}
use Rattle.sched_state.proofs.ElementLemmas.{element_at}
use Rattle.record_rules.proofs.sched_laws.ListLemmas.{all_get}
use Rattle.record_restoring.specs.Tasks.{has_row_of}
use Rattle.record_restoring.proofs.run_making.read_instances.Goals as goal

pub read_one-requires-clause-there : goal.read_one-requires-clause-there
read_one-requires-clause-there c =
    let ts : List TaskSpec = c.args.graph.now.tasks in
    let q = element_at ts c.loop-place.place (omega (arith, c.len-place-end.ensures.len, c.loop-place-test.true)) in
    let own : c.task-task.result.now ≡ q.0 = c.task-task.ensures ∙ get_or_from_slice_get ts c.loop-place.place q.0 no_task q.1 in
    let has : TaskSpec → Bool = has_row_of c.args.rows.now c.args.row.now.dag_id c.args.row.now.logical in
    ap has own ∙ all_get has ts c.loop-place.place q.0 c.requires.whole q.1

pub read_one-requires-clause-task : goal.read_one-requires-clause-task
read_one-requires-clause-task c =
    let ts : List TaskSpec = c.args.graph.now.tasks in
    let q = element_at ts c.loop-place.place (omega (arith, c.len-place-end.ensures.len, c.loop-place-test.true)) in
    let own : c.task-task.result.now ≡ q.0 = c.task-task.ensures ∙ get_or_from_slice_get ts c.loop-place.place q.0 no_task q.1 in
    record {
      at = c.loop-place.place;
      there = ap (λ (d : Dag). slice_get d.tasks c.loop-place.place) c.requires.graph ∙ q.1 ∙ ap (λ (t : TaskSpec). Some t) (sym own);
    }
