use Rattle.std.proofs.Common.{◌≡◌, ◌∙◌, ◌<◌, refl, ap, sym, arith, ℕ, List, length, slice_get, get_or, Some}
use Rattle.std.proofs.lemmas.Option.{slice_get_read, slice_get-get_or, get_or_from_slice_get}
use Rattle.graph_file.specs.declared.task_specs.TaskSpec.{TaskSpec}
use Rattle.dag_check.specs.Graphs.{Dag, no_task}
use Rattle.instance_machine.specs.Instances.{InstanceValue}
use Rattle.sched_state.specs.declared.runs.Run.{Run}
use Rattle.sched_model.specs.Schedule.{Schedule}
use Rattle.dag_check.specs.Orders.{is_in}
use Rattle.sched_draft.specs.Drafts.{DraftValue}
use Rattle.sched_clearing.specs.Selections.{names_instance}
use Rattle.sched_clearing.proofs.SettingLemmas.{back_begins, back_turn, back_pass, back_all, back_runs, back_item, back_items, back_count}
use Rattle.sched_clearing.proofs.clearing.set_in_run.Goals as goal
use Rattle.sched_clearing.proofs.clearing.set_in_run.Goals.{then-selects, else-selects}

pub loop-place-init : goal.loop-place-init
loop-place-init c = record { base = refl; own = c.requires.own; content = back_begins c.args.verdict (names_instance c.args.selection.now) c.args.dag.now.tasks c.args.position c.args.draft.now.content }

pub run-requires-in-loop-place : goal.run-requires-in-loop-place
run-requires-in-loop-place c =
    let long = back_runs c.args.verdict (names_instance c.args.selection.now) c.args.dag.now.tasks c.args.position c.loop-place.place c.args.draft.now.content c.loop-place.draft.content c.loop-place.invariant.content in
    omega (arith, long, c.requires.within)

pub bounds-as_slice-place : goal.bounds-as_slice-place
bounds-as_slice-place c =
    let a : Schedule = c.args.draft.now.content in
    let d : Schedule = c.loop-place.draft.content in
    let f = names_instance c.args.selection.now in
    let g : Dag = c.args.dag.now in
    let m : ℕ = c.args.position in
    let n : ℕ = c.loop-place.place in
    let r : Run = c.run.result.now in
    let count : c.len-2.result ≡ length r.instances = c.len-2.ensures in
    let there : slice_get a.runs m ≡ Some r = c.run.ensures in
    let q : Run = c.run-in-loop-place.result.now in
    let read : q ≡ get_or d.runs m q = sym (get_or_from_slice_get d.runs m q q c.run-in-loop-place.ensures) in
    let long = back_items c.args.verdict f g.tasks m n a d r q there c.loop-place.invariant.content read in
    let items : c.as_slice.result.now ≡ q.instances = c.as_slice.ensures in
    let same = ap length items in
    omega (arith, long, same, count, c.min-place-end.ensures, c.loop-place-test.true)

pub set-requires-clause-instance : goal.set-requires-clause-instance
set-requires-clause-instance c =
    let a : Schedule = c.args.draft.now.content in
    let d : Schedule = c.loop-place.draft.content in
    let f = names_instance c.args.selection.now in
    let g : Dag = c.args.dag.now in
    let m : ℕ = c.args.position in
    let n : ℕ = c.loop-place.place in
    let r : Run = c.run.result.now in
    let count : c.len-2.result ≡ length r.instances = c.len-2.ensures in
    let there : slice_get a.runs m ≡ Some r = c.run.ensures in
    let long = back_count c.args.verdict f g.tasks m n a d r there c.loop-place.invariant.content in
    omega (arith, long, count, c.min-place-end.ensures, c.loop-place-test.true)

pub loop-place-preserved : goal.loop-place-preserved
loop-place-preserved c =
    let a : Schedule = c.args.draft.now.content in
    let d : Schedule = c.loop-place.draft.content in
    let f = names_instance c.args.selection.now in
    let g : Dag = c.args.dag.now in
    let m : ℕ = c.args.position in
    let n : ℕ = c.loop-place.place in
    let r : Run = c.run.result.now in
    let count : c.len-2.result ≡ length r.instances = c.len-2.ensures in
    let there : slice_get a.runs m ≡ Some r = c.run.ensures in
    let q : Run = c.run-in-loop-place.result.now in
    let read : q ≡ get_or d.runs m q = sym (get_or_from_slice_get d.runs m q q c.run-in-loop-place.ensures) in
    let t : TaskSpec = c.task.result.now in
    let h : InstanceValue = c.index-as_slice-place.result in
    let within : n < length g.tasks = omega (arith, c.len.ensures.len, c.min-place-end.ensures, c.loop-place-test.true) in
    let long = back_items c.args.verdict f g.tasks m n a d r q there c.loop-place.invariant.content read in
    let inside : n < length q.instances = omega (arith, long, count, c.min-place-end.ensures, c.loop-place-test.true) in
    let task : slice_get g.tasks n ≡ Some t = slice_get-get_or g.tasks n no_task within ∙ ap (λ (u : TaskSpec). Some u) (sym c.task.ensures) in
    let items : c.as_slice.result.now ≡ q.instances = c.as_slice.ensures in
    let item : slice_get r.instances n ≡ Some h =
    sym (back_item c.args.verdict f g.tasks m n a d r q there c.loop-place.invariant.content read)
    ∙ slice_get_read q.instances _ n h refl inside (c.index-as_slice-place.is ∙ ap (λ (hs : List InstanceValue). get_or hs n h) items) in
    elim c.if-selects.branch [
      | then-selects w ↦ record {
        base = ap (λ (v : DraftValue). v.base) (w.draft-is ∙ w.set.ensures) ∙ c.loop-place.invariant.base;
        own = ap (λ (v : DraftValue). is_in v.touched m) (w.draft-is ∙ w.set.ensures) ∙ c.loop-place.invariant.own;
        content = back_turn c.args.verdict f g.tasks m n a d c.if-selects.draft.content r t h there task item (sym c.selects.ensures ∙ w.if-selects.true) c.loop-place.invariant.content (ap (λ (v : DraftValue). v.content) (w.draft-is ∙ w.set.ensures));
      }
      | else-selects w ↦ record {
        base = ap (λ (v : DraftValue). v.base) w.draft-is ∙ c.loop-place.invariant.base;
        own = ap (λ (v : DraftValue). is_in v.touched m) w.draft-is ∙ c.loop-place.invariant.own;
        content = ap (λ (v : DraftValue). v.content) w.draft-is ∙ back_pass c.args.verdict f g.tasks m n a d r t h there task item (sym c.selects.ensures ∙ w.if-selects.false) c.loop-place.invariant.content;
      }
    ]

pub returns-clause-draft : goal.returns-clause-draft
returns-clause-draft c =
    let a : Schedule = c.args.draft.now.content in
    let m : ℕ = c.args.position in
    let r : Run = c.run.result.now in
    let count : c.len-2.result ≡ length r.instances = c.len-2.ensures in
    let there : slice_get a.runs m ≡ Some r = c.run.ensures in
    c.loop-place.invariant.content ∙ back_all c.args.verdict (names_instance c.args.selection.now) c.args.dag.now.tasks m c.loop-place.place a r there (omega (arith, c.len.ensures.len, count, c.min-place-end.ensures, c.loop-place-test.false))
