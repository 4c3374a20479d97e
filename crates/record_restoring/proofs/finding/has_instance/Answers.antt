use Rattle.std.proofs.Common.{sym, rules}
use Rattle.record_rules.specs.Reading.{is_of}
use Rattle.record_restoring.specs.Places.{StandsAt}
use Rattle.record_restoring.proofs.SearchLemmas.{any_at}
use Rattle.record_restoring.proofs.finding.has_instance.Goals as goal

pub returns-in-Some : goal.returns-in-Some
returns-in-Some c =
    let s : StandsAt (is_of c.args.dag_id.now c.args.logical c.args.task_id.now) c.args.rows.now c.in-Some.field-0 = search (rules, c.in-Some.ensures) in
    sym (any_at (is_of c.args.dag_id.now c.args.logical c.args.task_id.now) c.args.rows.now s)
