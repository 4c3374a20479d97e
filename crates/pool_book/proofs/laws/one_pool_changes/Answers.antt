use Rattle.pool_book.proofs.PoolLemmas.{pool_of-with, pool_of-put, in_order-with, in_order-put}
use Rattle.pool_book.proofs.laws.one_pool_changes.Goals as goal

pub returns-clause-changed : goal.returns-clause-changed
returns-clause-changed c = λ name other f pools. pool_of-with name f other pools

pub returns-clause-resized : goal.returns-clause-resized
returns-clause-resized c = λ name other size pools. pool_of-put name _ other pools

pub returns-clause-order : goal.returns-clause-order
returns-clause-order c = λ name f size pools s. (in_order-with name f pools s, in_order-put name _ pools s)
