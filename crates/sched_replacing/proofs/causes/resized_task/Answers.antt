use Rattle.std.proofs.Common.{◌≡◌, ◌∙◌, sym, ap, subst, arith, List, Bool, None, Some, map}
use Rattle.std.proofs.lemmas.List.{length-map}
use Rattle.graph_file.specs.declared.task_specs.TaskSpec.{TaskSpec}
use Rattle.graph_file.specs.declared.graph_specs.GraphSpec.{GraphSpec}
use Rattle.dag_check.specs.Graphs.{Dag}
use Rattle.sched_state.specs.declared.runs.Run.{Run}
use Rattle.sched_clearing.specs.Spans.{AreRunsOf}
use Rattle.sched_model.specs.Causes.{takes_another_number}
use Rattle.sched_replacing.specs.Marking.{first_tried}
use Rattle.sched_replacing.proofs.OwnLemmas.{resized_begin, resized_hit, resized_next, resized_over}
use Rattle.sched_replacing.proofs.TriedLemmas.{tried_within}
use Rattle.sched_replacing.proofs.causes.resized_task.Goals as goal

pub loop-position-init : goal.loop-position-init
loop-position-init c =
    let span = subst (λ (s : GraphSpec). AreRunsOf s.dag_id c.args.draft.now.content.runs c.span_of_all-span.result.start c.span_of_all-span.result.end) c.spec.ensures.spec c.span_of_all-span.ensures in
    resized_begin c.args.draft.now.content c.args.new.now c.span_of_all-span.result.start c.span_of_all-span.result.end span

pub task-requires : goal.task-requires
task-requires c =
    let old : Dag = c.args.old.now in
    let new : Dag = c.args.new.now in
    let r : Run = c.run.result.now in
    let tried : first_tried (map (takes_another_number new) old.tasks) r.instances ≡ Some c.in-Some.place =
    sym (ap (λ (ms : List Bool). first_tried ms r.instances) (c.deref.ensures.value ∙ c.in_ok-marks.ensures)) ∙ (sym c.first_tried.ensures ∙ c.in-Some.is) in
    let within = tried_within 0 c.in-Some.place (map (takes_another_number new) old.tasks) r.instances tried in
    omega (arith, within, length-map old.tasks (takes_another_number new))

pub loop-position-preserved : goal.loop-position-preserved
loop-position-preserved c =
    let span = subst (λ (s : GraphSpec). AreRunsOf s.dag_id c.args.draft.now.content.runs c.span_of_all-span.result.start c.span_of_all-span.result.end) c.spec.ensures.spec c.span_of_all-span.ensures in
    let old : Dag = c.args.old.now in
    let new : Dag = c.args.new.now in
    let r : Run = c.run.result.now in
    let tried : first_tried (map (takes_another_number new) old.tasks) r.instances ≡ None =
    sym (ap (λ (ms : List Bool). first_tried ms r.instances) (c.deref.ensures.value ∙ c.in_ok-marks.ensures)) ∙ (sym c.first_tried.ensures ∙ c.in_default.is) in
    sym (resized_next c.args.draft.now.content old new c.span_of_all-span.result.start c.span_of_all-span.result.end c.loop-position.position r span c.loop-position.auto.position c.loop-position-test.true c.run.ensures c.requires.old tried)
    ∙ c.loop-position.invariant

pub returns-in-Some : goal.returns-in-Some
returns-in-Some c =
    let span = subst (λ (s : GraphSpec). AreRunsOf s.dag_id c.args.draft.now.content.runs c.span_of_all-span.result.start c.span_of_all-span.result.end) c.spec.ensures.spec c.span_of_all-span.ensures in
    let old : Dag = c.args.old.now in
    let new : Dag = c.args.new.now in
    let r : Run = c.run.result.now in
    let tried : first_tried (map (takes_another_number new) old.tasks) r.instances ≡ Some c.in-Some.place =
    sym (ap (λ (ms : List Bool). first_tried ms r.instances) (c.deref.ensures.value ∙ c.in_ok-marks.ensures)) ∙ (sym c.first_tried.ensures ∙ c.in-Some.is) in
    ap (λ (u : TaskSpec). Some u.task_id) c.task.ensures
    ∙ (sym (resized_hit c.args.draft.now.content old new c.span_of_all-span.result.start c.span_of_all-span.result.end c.loop-position.position c.in-Some.place r span c.loop-position.auto.position c.loop-position-test.true c.run.ensures c.requires.old tried)
    ∙ c.loop-position.invariant)

pub returns : goal.returns
returns c =
    let span = subst (λ (s : GraphSpec). AreRunsOf s.dag_id c.args.draft.now.content.runs c.span_of_all-span.result.start c.span_of_all-span.result.end) c.spec.ensures.spec c.span_of_all-span.ensures in
    sym (resized_over c.args.draft.now.content c.args.new.now c.span_of_all-span.result.start c.span_of_all-span.result.end c.loop-position.position span (omega (arith, c.loop-position-test.false))) ∙ c.loop-position.invariant
