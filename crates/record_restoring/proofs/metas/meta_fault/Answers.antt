use Rattle.std.proofs.Common.{sym, rules}
use Rattle.record_rules.specs.Faults.{is_meta_row_right}
use Rattle.record_restoring.proofs.FaultLemmas.{bad_at, all_step, bad_none}
use Rattle.record_restoring.proofs.metas.meta_fault.Goals as goal

pub returns-then-not-is_right : goal.returns-then-not-is_right
returns-then-not-is_right c =
    sym (bad_at (is_meta_row_right c.args.limits) c.args.rows.now c.loop-position.position c.index-rows-position.result c.loop-position-test.true c.index-rows-position.is c.loop-position.invariant (search (rules, c.is_right.ensures, c.if-not-is_right.true, c.row.view_is)))

pub loop-position-preserved : goal.loop-position-preserved
loop-position-preserved c = all_step (is_meta_row_right c.args.limits) c.args.rows.now c.loop-position.position c.index-rows-position.result c.loop-position-test.true c.index-rows-position.is c.loop-position.invariant (search (rules, c.is_right.ensures, c.if-not-is_right.false, c.row.view_is))

pub returns : goal.returns
returns c = sym (bad_none (is_meta_row_right c.args.limits) c.args.rows.now c.loop-position.position c.loop-position-test.false c.loop-position.invariant)
