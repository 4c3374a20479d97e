use Rattle.std.proofs.Common.{◌≡◌, ℕ, sym, ap, subst, ◌∙◌, rules, false, get_or, true≢false}
use Rattle.std.specs.Prelude.{IfOk}
use Rattle.std.proofs.lemmas.Option.{get_or_from_slice_get}
use Rattle.instance_machine.specs.Instances.{InstanceValue}
use Rattle.record_rows.specs.Rows.{Rows, RunRow, InstanceRow}
use Rattle.record_rules.specs.Reading.{is_of}
use Rattle.record_restoring.specs.Dealing.{tries_among}
use Rattle.record_restoring.specs.Places.{StandsAt}
use Rattle.record_restoring.specs.Tasks.{has_row_of}
use Rattle.record_restoring.proofs.DealLemmas.{dealt_at}
use Rattle.record_restoring.proofs.HeldLemmas.{HeldBy, held_by}
use Rattle.record_restoring.proofs.run_making.read_one.Goals.{After-index-buckets-place}
use Rattle.record_restoring.proofs.run_making.read_one.Goals as goal

-- the row and the bucket at the place are those of the task's instance
known : (c : After-index-buckets-place) → HeldBy c.args.rows.now c.args.row.now.dag_id c.args.row.now.logical c.args.task.now c.index.result.now c.index-buckets-place.result
known c =
    let place : ℕ = c.in-Some.place in
    let rows : Rows = c.args.rows.now in
    let r : RunRow = c.args.row.now in
    let x : InstanceRow = c.index.result.now in
    let s : StandsAt (is_of r.dag_id r.logical c.args.task.now.task_id) rows.instances place = search (rules, c.in-Some.ensures, c.rows.view_is, c.row.view_is, c.as_str-task_id.ensures.text, c.as_str.ensures.value) in
    let there : x ≡ s.of = c.index.ensures ∙ ap (λ (r : Rows). get_or r.instances place x) c.rows.view_is ∙ get_or_from_slice_get rows.instances place s.of x s.there in
    let b : c.index-buckets-place.result ≡ tries_among rows.attempts s.of =
    dealt_at rows.attempts rows.instances c.args.buckets.now place s.of c.index-buckets-place.result c.requires.dealt s.within (sym (get_or_from_slice_get rows.instances place s.of s.of s.there)) c.index-buckets-place.is in
    held_by c.args.limits rows r.dag_id r.logical c.args.task.now x c.index-buckets-place.result c.requires.keyed c.requires.rules c.requires.task s there b

pub unreachable-requires : goal.unreachable-requires
unreachable-requires c =
    let none : has_row_of c.args.rows.now c.args.row.now.dag_id c.args.row.now.logical c.args.task.now ≡ false = search (rules, c.in-None.ensures, c.rows.view_is, c.row.view_is, c.as_str-task_id.ensures.text, c.as_str.ensures.value) in
    true≢false (sym c.requires.there ∙ none)

pub read_instance-requires-clause-verdict : goal.read_instance-requires-clause-verdict
read_instance-requires-clause-verdict c = (known (goal.at.read_instance-requires-clause-verdict c).After-index-buckets-place).verdict

pub read_instance-requires-clause-since : goal.read_instance-requires-clause-since
read_instance-requires-clause-since c = (known (goal.at.read_instance-requires-clause-since c).After-index-buckets-place).since

pub read_instance-requires-clause-tries : goal.read_instance-requires-clause-tries
read_instance-requires-clause-tries c = (known (goal.at.read_instance-requires-clause-tries c).After-index-buckets-place).tries

pub returns : goal.returns
returns c = subst (λ (i : InstanceValue). IfOk c.read_instance.result (λ made. made ≡ i)) (known (goal.at.returns c).After-index-buckets-place).whole c.read_instance.ensures
