use Rattle.command_words.proofs.EnteredLemmas.{line_of_words}
use Rattle.command_words.proofs.laws.words_ask_for_no_report.Goals as goal

pub returns : goal.returns
returns c = line_of_words
