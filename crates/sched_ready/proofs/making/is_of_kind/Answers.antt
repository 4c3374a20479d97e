use Rattle.std.proofs.Common.{◌≡◌, ◌∙◌, ◌<◌, ap, length, slice_get, sym, Some}
use Rattle.std.proofs.lemmas.Bool.{eqb-true}
use Rattle.std.proofs.lemmas.Option.{get_or_from_slice_get, slice_get-get_or}
use Rattle.graph_file.specs.declared.task_specs.TaskSpec.{TaskSpec}
use Rattle.dag_check.specs.Graphs.{no_task, task_of}
use Rattle.sched_model.proofs.sched_state.ElementLemmas.{element_at}
use Rattle.sched_model.proofs.sched_state.NameLemmas.{same_is}
use Rattle.sched_ready.proofs.making.is_of_kind.Goals as goal

pub returns-then-eq : goal.returns-then-eq
returns-then-eq c e =
    let g = c.args.dag.now in
    let ss = c.args.samples.now in
    let place = element_at ss c.args.kind c.requires.kind in
    let within : place.0 < length g.tasks = c.requires.samples c.args.kind place.0 place.1 in
    let is : c.task-other.result.now ≡ task_of g place.0 = c.task-other.ensures ∙ ap (task_of g) (get_or_from_slice_get ss c.args.kind place.0 0 place.1) in
    record {
      place = place.0;
      sample = task_of g place.0;
      place_is = place.1;
      sample_is = slice_get-get_or g.tasks place.0 no_task within;
      pool = sym (ap (λ (t : TaskSpec). t.pool) is) ∙ same_is c.task-other.result.now.pool c.args.task.now.pool (sym c.eq.ensures ∙ c.if-eq.true);
      slots = sym (ap (λ (t : TaskSpec). t.pool_slots) is) ∙ eqb-true c.task-other.result.now.pool_slots c.args.task.now.pool_slots (sym c.eq-then-eq.ensures ∙ e);
    }
