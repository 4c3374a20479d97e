use Rattle.std.proofs.Common.{◌≡◌, ◌∙◌, ◌<◌, ap, sym, arith, ℕ, List, Option, Some, length, slice_get, zip}
use Rattle.std.proofs.lemmas.List.{length-map}
use Rattle.std.proofs.lemmas.Option.{slice_get-get_or}
use Rattle.graph_file.specs.declared.task_specs.TaskSpec.{TaskSpec}
use Rattle.dag_check.specs.Graphs.{no_task}
use Rattle.sched_state.specs.declared.runs.Run.{Run}
use Rattle.sched_model.specs.Replacing.{fitted}
use Rattle.sched_replacing.specs.Fitting.{old_place_of}
use Rattle.sched_replacing.proofs.ListLemmas.{map_over, map_pushed}
use Rattle.sched_replacing.proofs.SourceLemmas.{source_gives}
use Rattle.sched_replacing.proofs.fitting.instances_from.Goals as goal

pub task-task-requires : goal.task-task-requires
task-task-requires c =
    let long = ap length c.requires ∙ length-map c.args.new.now.tasks (old_place_of c.args.old.now.tasks) in
    omega (arith, long, c.loop-place-test.true)

pub loop-place-preserved : goal.loop-place-preserved
loop-place-preserved c =
    let r : Run = c.args.run.now in
    let old : List TaskSpec = c.args.old.now.tasks in
    let news : List TaskSpec = c.args.new.now.tasks in
    let sources : List (Option ℕ) = c.args.sources.now in
    let n : ℕ = c.loop-place.place in
    let long = ap length c.requires ∙ length-map news (old_place_of old) in
    let inside : n < length news = omega (arith, long, c.loop-place-test.true) in
    let task : slice_get news n ≡ Some c.task-task.result.now = slice_get-get_or news n no_task inside ∙ ap (λ (u : TaskSpec). Some u) (sym c.task-task.ensures) in
    map_pushed (fitted r.phase (zip old r.instances)) news n no_task c.task-task.result.now c.in_ok-instance.instance c.loop-place.instances.items _ inside c.task-task.ensures
    (source_gives r old news sources n _ c.task-task.result.now c.in_ok-instance.instance c.requires (slice_get-get_or sources n _ c.loop-place-test.true) task c.in_ok-instance.ensures) c.loop-place.invariant c.in_ok-push.ensures.items

pub returns : goal.returns
returns c =
    let old : List TaskSpec = c.args.old.now.tasks in
    let news : List TaskSpec = c.args.new.now.tasks in
    let long = ap length c.requires ∙ length-map news (old_place_of old) in
    c.new.ensures ∙ map_over (fitted c.args.run.now.phase (zip old c.args.run.now.instances)) news c.loop-place.place c.loop-place.instances.items (omega (arith, long, c.loop-place-test.false)) c.loop-place.invariant
