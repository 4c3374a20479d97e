use Rattle.pool_book.proofs.LawLemmas.{offered-one}
use Rattle.pool_book.proofs.laws.an_offer_adds_one_key.Goals as goal

pub returns : goal.returns
returns c = offered-one
