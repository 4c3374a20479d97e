use Rattle.pool_book.proofs.LawLemmas.{withdrawn, not-withdrawn}
use Rattle.pool_book.proofs.laws.what_is_withdrawn_is_not_offered.Goals as goal

pub returns-clause-unchanged : goal.returns-clause-unchanged
returns-clause-unchanged c = not-withdrawn

pub returns-clause-withdrawn : goal.returns-clause-withdrawn
returns-clause-withdrawn c = withdrawn
