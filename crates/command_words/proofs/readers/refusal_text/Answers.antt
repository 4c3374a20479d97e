use Rattle.std.proofs.Common.{◌∙◌, map, List}
use Rattle.std.specs.Prelude.{string_bytes}
use Rattle.std.proofs.lemmas.Result.{IfOk-weaker}
use Rattle.clap.specs.Words.{Text, fault_of}
use Rattle.word_app.specs.App.{dagsched}
use Rattle.command_words.proofs.WordsLemmas.{refused_words}
use Rattle.command_words.proofs.readers.refusal_text.Goals as goal

pub returns : goal.returns
returns c =
    let words : List Text = map string_bytes c.args.words.now in
    IfOk-weaker c.shown.result _ _ (λ text h. h.0 ∙ refused_words (fault_of dagsched words) c.in-Err.error c.in-Err.ensures.kinds h.1) c.shown.ensures
