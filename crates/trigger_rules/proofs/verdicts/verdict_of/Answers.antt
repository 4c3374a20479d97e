use Rattle.std.proofs.Common.{◌∙◌, ap}
use Rattle.trigger_rules.specs.Counts.{total}
use Rattle.trigger_rules.specs.Inside.{by_counts}
use Rattle.trigger_rules.proofs.RuleLemmas.{row, row-some}
use Rattle.trigger_rules.proofs.verdicts.verdict_of.Goals as goal

pub returns : goal.returns
returns c = λ s e.
    c.by_counts.ensures
    ∙ (ap (by_counts c.args.rule) e ∙ (row c.args.rule s ∙ row-some c.args.rule s (λ z. c.if-total-eq0.false (c.total.ensures ∙ (ap total e ∙ z)))))
