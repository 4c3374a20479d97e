use Rattle.std.proofs.Common.{◌≡◌, sym, ap, ◌∙◌, rules, find, Some, None, get_or, ℤ}
use Rattle.std.proofs.lemmas.Option.{get_or_from_slice_get}
use Rattle.graph_file.specs.declared.task_specs.TaskSpec.{TaskSpec}
use Rattle.record_rows.specs.Rows.{Rows, InstanceRow, AttemptRow}
use Rattle.sched_state.specs.Lists.{same}
use Rattle.sched_model.specs.Schedule.{dag_among}
use Rattle.record_rules.specs.Reading.{is_of, meta_of}
use Rattle.record_rules.specs.Faults.{is_attempt_of}
use Rattle.record_restoring.specs.Dealing.{tries_among}
use Rattle.record_restoring.specs.Places.{StandsAt}
use Rattle.record_restoring.proofs.DealLemmas.{dealt_at}
use Rattle.record_restoring.proofs.TryLemmas.{own, attempt_test, task_there, tries_rise}
use Rattle.record_restoring.proofs.attempt_rules.is_right.Goals as goal

pub is_try_right-requires-clause-order : goal.is_try_right-requires-clause-order
is_try_right-requires-clause-order c =
    let w : AttemptRow = c.args.row.now in
    let s : StandsAt (is_of w.dag_id w.logical w.task_id) c.args.rows.now.instances c.in-Some.place = search (rules, c.in-Some.ensures, c.row.view_is, c.rows.view_is) in
    let b : c.index-buckets-place.result ≡ tries_among c.args.rows.now.attempts s.of =
    dealt_at c.args.rows.now.attempts c.args.rows.now.instances c.args.buckets.now c.in-Some.place s.of c.index-buckets-place.result c.requires.dealt s.within (sym (get_or_from_slice_get c.args.rows.now.instances c.in-Some.place s.of s.of s.there)) c.index-buckets-place.is in
    tries_rise c.args.rows.now s.of c.index-buckets-place.result c.requires.keyed b

pub returns-in-Some-task_named : goal.returns-in-Some-task_named
returns-in-Some-task_named c =
    let w : AttemptRow = c.args.row.now in
    let s : StandsAt (is_of w.dag_id w.logical w.task_id) c.args.rows.now.instances c.in-Some.place = search (rules, c.in-Some.ensures, c.row.view_is, c.rows.view_is) in
    let b : c.index-buckets-place.result ≡ tries_among c.args.rows.now.attempts s.of =
    dealt_at c.args.rows.now.attempts c.args.rows.now.instances c.args.buckets.now c.in-Some.place s.of c.index-buckets-place.result c.requires.dealt s.within (sym (get_or_from_slice_get c.args.rows.now.instances c.in-Some.place s.of s.of s.there)) c.index-buckets-place.is in
    let t : TaskSpec = c.in-Some-task_named.task.now in
    let named : find (λ (u : TaskSpec). same u.task_id w.task_id) (dag_among c.args.graphs.now w.dag_id).tasks ≡ Some t = search (rules, c.task_named.ensures, c.in-Some-task_named.is, c.row.view_is) in
    let x : InstanceRow = c.index.result.now in
    let there : x ≡ s.of = c.index.ensures ∙ ap (λ (r : Rows). get_or r.instances c.in-Some.place x) c.rows.view_is ∙ get_or_from_slice_get c.args.rows.now.instances c.in-Some.place s.of x s.there in
    let next : ℤ = (meta_of c.args.rows.now).next_serial in
    let made : c.is_try_right.result ≡ is_attempt_of next x t c.index-buckets-place.result w = search (rules, c.is_try_right.ensures, c.next_serial.ensures) in
    made
    ∙ ap (λ (y : InstanceRow). is_attempt_of next y t c.index-buckets-place.result w) there
    ∙ sym (attempt_test c.args.graphs.now next c.args.rows.now w s.of t c.index-buckets-place.result (own c.args.rows.now w c.requires.keyed s) b named)

pub returns-in-None : goal.returns-in-None
returns-in-None c =
    let w : AttemptRow = c.args.row.now in
    let s : StandsAt (is_of w.dag_id w.logical w.task_id) c.args.rows.now.instances c.in-Some.place = search (rules, c.in-Some.ensures, c.row.view_is, c.rows.view_is) in
    let none : find (λ (u : TaskSpec). same u.task_id w.task_id) (dag_among c.args.graphs.now w.dag_id).tasks ≡ None = search (rules, c.task_named.ensures, c.in-None.is, c.row.view_is) in
    absurd (task_there c.args.graphs.now c.args.rows.now w s.of c.in-Some.place (own c.args.rows.now w c.requires.keyed s) s.there c.requires.right none)
