use Rattle.std.proofs.Common.{sym, ap, ◌∙◌, length, List}
use Rattle.record_rows.specs.Rows.{AttemptRow}
use Rattle.record_rules.specs.Faults.{is_instance_row_right}
use Rattle.record_restoring.proofs.FaultLemmas.{bad_at, all_step, bad_none}
use Rattle.record_restoring.proofs.DealLemmas.{dealt_at}
use Rattle.record_restoring.proofs.instance_rules.first_bad.Goals as goal

pub returns-then-not-is_right : goal.returns-then-not-is_right
returns-then-not-is_right c =
    sym (bad_at (is_instance_row_right c.args.graphs.now c.args.rows.now) c.args.instances.now c.loop-position.position c.index-instances-position.result c.loop-position-test.true c.index-instances-position.is c.loop-position.invariant (sym c.is_right.ensures ∙ c.if-not-is_right.true))

pub loop-position-preserved : goal.loop-position-preserved
loop-position-preserved c =
    all_step (is_instance_row_right c.args.graphs.now c.args.rows.now) c.args.instances.now c.loop-position.position c.index-instances-position.result c.loop-position-test.true c.index-instances-position.is c.loop-position.invariant (sym c.is_right.ensures ∙ c.if-not-is_right.false)

pub returns : goal.returns
returns c = sym (bad_none (is_instance_row_right c.args.graphs.now c.args.rows.now) c.args.instances.now c.loop-position.position c.loop-position-test.false c.loop-position.invariant)

pub is_right-requires-clause-tries : goal.is_right-requires-clause-tries
is_right-requires-clause-tries c =
    c.len.ensures ∙ ap (λ (ws : List AttemptRow). length ws) (dealt_at c.args.rows.now.attempts c.args.instances.now c.args.buckets.now c.loop-position.position c.index-instances-position.result c.index-buckets-position.result c.requires.dealt c.loop-position-test.true
    c.index-instances-position.is c.index-buckets-position.is)
