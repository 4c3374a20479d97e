use Rattle.sqlite_pool.proofs.StateLemmas.{clean_is}
use Rattle.sqlite_trees.proofs.Doubt.{no_doubt}
use Rattle.dagsched.proofs.MemoryLemmas.{in_memory}
use Rattle.dagsched.proofs.records.in_memory.Goals as goal

pub returns : goal.returns
returns g c = in_memory _ c.args.command.now _ c.in_files.result (λ h. no_doubt _ (clean_is h.store.pool)) c.new-2.ensures c.in_files.ensures
