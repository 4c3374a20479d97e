use Rattle.sqlite_pool.proofs.StateLemmas.{clean_is}
use Rattle.sqlite_trees.proofs.Doubt.{no_doubt}
use Rattle.dagsched.proofs.volatile.memory_is_clean.Goals as goal

pub returns : goal.returns
returns c = no_doubt _ (clean_is c.args.conn.now.store.pool)
