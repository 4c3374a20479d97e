use Rattle.pool_book.proofs.PoolLemmas.{same-pools}
use Rattle.pool_book.proofs.laws.pools_are_known_by_their_names.Goals as goal

pub returns : goal.returns
returns c = same-pools
