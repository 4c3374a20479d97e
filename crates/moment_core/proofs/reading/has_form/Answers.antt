use Rattle.std.proofs.Common.{sym}
use Rattle.moment_core.proofs.FormLemmas.{form-unequal}
use Rattle.moment_core.proofs.reading.has_form.Goals as goal

pub returns-then-form-text-clause-fits : goal.returns-then-form-text-clause-fits
returns-then-form-text-clause-fits c = sym (form-unequal _ _ c.if-form-text.true)
