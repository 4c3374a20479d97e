use Rattle.std.proofs.Common.{◌≡◌, ◌∙◌, ◌<◌, refl, sym, ap, subst, arith, ℕ, List, Option, Some, length, slice_get}
use Rattle.std.specs.Result.{IfOk}
use Rattle.std.proofs.lemmas.Option.{slice_get-get_or, slice_get_read}
use Rattle.graph_file.specs.declared.task_specs.TaskSpec.{TaskSpec}
use Rattle.dag_check.specs.Graphs.{no_task}
use Rattle.instance_machine.specs.Instances.{InstanceValue}
use Rattle.sched_state.specs.declared.runs.Run.{Run}
use Rattle.sched_model.specs.Replacing.{kept_as}
use Rattle.sched_replacing.specs.Fitting.{instance_from}
use Rattle.sched_replacing.proofs.SourceLemmas.{source_kept, source_over}
use Rattle.sched_replacing.proofs.fitting.instance_from.Goals as goal
use Rattle.sched_replacing.proofs.fitting.instance_from.Goals.{in_default-via-in-Some+else-place-min, in_default-via-in_default}

pub returns-in-Some : goal.returns-in-Some
returns-in-Some c =
    let r : Run = c.args.run.now in
    let old : List TaskSpec = c.args.old.now.tasks in
    let hs : List InstanceValue = c.as_slice-instances.result.now in
    let n : ℕ = c.in-Some.place in
    let t : TaskSpec = c.task.result.now in
    let h : InstanceValue = c.index-instances-place.result in
    let within : n < length old = omega (arith, c.len.ensures.len, c.min.ensures, c.if-place-min.true) in
    let inside : n < length hs = omega (arith, c.min.ensures, c.if-place-min.true) in
    let task : slice_get old n ≡ Some t = slice_get-get_or old n no_task within ∙ ap (λ (u : TaskSpec). Some u) (sym c.task.ensures) in
    let item : slice_get r.instances n ≡ Some h = ap (λ (xs : List InstanceValue). slice_get xs n) (sym c.as_slice-instances.ensures) ∙ slice_get_read hs _ n h refl inside c.index-instances-place.is in
    let is : kept_as t c.args.new.now h ≡ instance_from r old c.args.source c.args.new.now =
    sym (ap (λ (s : Option ℕ). instance_from r old s c.args.new.now) c.in-Some.is ∙ source_kept r old n t c.args.new.now h task item) in
    subst (λ (x : InstanceValue). IfOk c.kept_as.result (λ i. i ≡ x)) is c.kept_as.ensures

pub returns-in_default : goal.returns-in_default
returns-in_default c =
    let r : Run = c.args.run.now in
    let old : List TaskSpec = c.args.old.now.tasks in
    let u : TaskSpec = c.args.new.now in
    let long = ap length c.as_slice-instances.ensures in
    elim c.in_default.branch [
      | in_default-via-in-Some+else-place-min w ↦
          c.newcomer.ensures
          ∙ sym (ap (λ (s : Option ℕ). instance_from r old s u) w.in-Some.is ∙ source_over r old w.in-Some.place u (omega (arith, long, w.len.ensures.len, w.min.ensures, w.if-place-min.false)))
      | in_default-via-in_default w ↦ c.newcomer.ensures ∙ sym (ap (λ (s : Option ℕ). instance_from r old s u) w.in_default.is)
    ]
