use Rattle.std.proofs.Common.{◌≡◌, ◌∙◌, sym, ap, ℕ, ◌<◌, List, length, true, arith}
use Rattle.std.proofs.lemmas.Option.{slice_get-get_or}
use Rattle.std.proofs.lemmas.Iterator.Adapters.{position_from-zero}
use Rattle.graph_file.specs.declared.task_specs.TaskSpec.{TaskSpec}
use Rattle.dag_check.specs.Graphs.{no_task, task_of}
use Rattle.sched_state.specs.Lists.{same}
use Rattle.sched_state.proofs.NameLemmas.{same_is}
use Rattle.sched_model.specs.Clearing.{place_of}
use Rattle.record_writing.proofs.TaskLemmas.{place_at}
use Rattle.record_writing.proofs.earlier.place_near.Goals as goal

pub returns-then-eq : goal.returns-then-eq
returns-then-eq c =
    let ts : List TaskSpec = c.args.dag.now.tasks in
    let id : List ℕ = c.args.id.now in
    let t : TaskSpec = task_of c.args.dag.now c.args.place in
    let below : c.args.place < length ts = omega (arith, c.len.ensures.len, c.if-place-len.true) in
    let named : same t.task_id id ≡ true = ap (λ (u : TaskSpec). same u.task_id id) (sym c.task.ensures) ∙ (sym c.eq.ensures ∙ c.if-eq.true) in
    sym (ap (place_of ts) (sym (same_is t.task_id id named)) ∙ place_at ts c.args.place t c.requires (slice_get-get_or ts c.args.place no_task below))

pub returns : goal.returns
returns c = c.place.ensures ∙ position_from-zero (λ (t : TaskSpec). same t.task_id c.args.id.now) c.args.dag.now.tasks
