use Rattle.command_words.proofs.EnteredLemmas.{words_from_clap}
use Rattle.command_words.proofs.laws.words_come_from_clap.Goals as goal

pub returns : goal.returns
returns c = words_from_clap
