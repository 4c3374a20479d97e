use Rattle.std.proofs.Common.{sym, ◌∙◌}
use Rattle.record_rules.proofs.RiseLemmas.{rises_step, falls_at}
use Rattle.record_rules.proofs.orders.rise.Goals as goal

pub returns-then-not-is_lt : goal.returns-then-not-is_lt
returns-then-not-is_lt g c =
    sym (falls_at g.X.Keyed.before c.args.rows.now c.loop-position.position c.index-rows-position.result c.index-rows-position-in-loop-position.result c.loop-position.auto.position c.loop-position-test.true c.index-rows-position.is
    c.index-rows-position-in-loop-position.is (sym c.compare.ensures ∙ sym c.is_lt.ensures ∙ c.if-not-is_lt.true))

pub loop-position-preserved : goal.loop-position-preserved
loop-position-preserved g c =
    rises_step g.X.Keyed.before c.ordered.ensures.transitive c.args.rows.now c.loop-position.position c.index-rows-position.result c.index-rows-position-in-loop-position.result c.loop-position.auto.position c.loop-position-test.true c.index-rows-position.is
    c.index-rows-position-in-loop-position.is c.loop-position.invariant (sym c.compare.ensures ∙ sym c.is_lt.ensures ∙ c.if-not-is_lt.false)
