use Rattle.pool_book.proofs.LawLemmas.{first-is-one}
use Rattle.pool_book.proofs.laws.the_first_in_rank_is_one.Goals as goal

pub returns : goal.returns
returns c = first-is-one
