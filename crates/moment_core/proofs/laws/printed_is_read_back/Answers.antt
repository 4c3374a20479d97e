use Rattle.moment_core.proofs.PrintLemmas.{read_back}
use Rattle.moment_core.proofs.laws.printed_is_read_back.Goals as goal

pub returns : goal.returns
returns c = read_back
