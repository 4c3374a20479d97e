use Rattle.std.proofs.Common.{rules}
use Rattle.std.proofs.lemmas.Fn.{always_returns_same}
use Rattle.pool_book.specs.Keys.{rank}
use Rattle.pool_book.proofs.RankLemmas.{rank-at}
use Rattle.pool_book.proofs.ready.search.Goals as goal

pub returns : goal.returns
returns c = rank-at c.args.keys.now c.args.key.now c.binary_search_by.result c.requires c.binary_search_by.ensures.bound (c.binary_search_by.ensures.position (λ k. rank k c.args.key.now) (always_returns_same _ _ _ (λ a r q k. search rules)))
