use Rattle.std.proofs.Common.{◌∙◌, sym, false, arith}
use Rattle.sched_state.specs.Lists.{same}
use Rattle.sched_state.specs.declared.runs.Run.{Run}
use Rattle.run_lists.proofs.SearchLemmas.{last_nowhere, last_there, one_read}
use Rattle.run_lists.proofs.runs.Runs.last_before.Goals as goal

pub returns-then-position-eq0 : goal.returns-then-position-eq0
returns-then-position-eq0 c =
    last_nowhere c.args.graph.now c.args.logical c.args.self.now.runs c.position_from-position.result c.requires c.position_from-position.ensures (λ r l g. absurd (omega (arith, l, c.if-position-eq0.true)))

pub returns-then-eq : goal.returns-then-eq
returns-then-eq c =
    last_there c.args.graph.now c.args.logical c.args.self.now.runs c.position_from-position.result c.get-run.result.now c.position_from-position.ensures (omega (arith, c.if-position-eq0.false)) c.get-run.ensures (sym c.eq.ensures ∙ c.if-eq.true)

pub returns-else-eq : goal.returns-else-eq
returns-else-eq c =
    last_nowhere c.args.graph.now c.args.logical c.args.self.now.runs c.position_from-position.result c.requires c.position_from-position.ensures
    (λ r l g. one_read (λ (q : Run). same q.graph c.args.graph.now) _ c.get-run.result.now r false c.get-run.ensures g (sym c.eq.ensures ∙ c.if-eq.false))
