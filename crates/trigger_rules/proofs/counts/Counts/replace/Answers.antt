use Rattle.std.proofs.Common.{◌∙◌, ◌++◌}
use Rattle.trigger_rules.proofs.CountLemmas.{counts_moved}
use Rattle.trigger_rules.proofs.counts.Counts.replace.Goals as goal

pub returns-clause-counted : goal.returns-clause-counted
returns-clause-counted c = λ s t e. c.add.ensures.counted (s ++ t) (c.remove.ensures.counted s t e) ∙ counts_moved s t c.args.new
