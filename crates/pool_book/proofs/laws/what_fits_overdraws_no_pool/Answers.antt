use Rattle.pool_book.proofs.LawLemmas.{overdrawn-by_none}
use Rattle.pool_book.proofs.laws.what_fits_overdraws_no_pool.Goals as goal

pub returns : goal.returns
returns c = overdrawn-by_none
