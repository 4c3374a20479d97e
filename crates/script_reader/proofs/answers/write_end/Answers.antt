use Rattle.script_reader.proofs.ShownLemmas.{appends_keep}
use Rattle.script_reader.proofs.answers.write_end.Goals as goal

pub returns : goal.returns
returns g c = appends_keep _ _ _ _ c.in_ok-put.ensures c.in_ok-flush.ensures.bytes
