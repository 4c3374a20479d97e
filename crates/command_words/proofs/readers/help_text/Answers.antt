use Rattle.std.proofs.Common.{◌∙◌, map, List}
use Rattle.std.specs.Prelude.{string_bytes}
use Rattle.std.proofs.lemmas.Result.{IfOk-weaker}
use Rattle.clap.specs.Words.{Text}
use Rattle.command_words.proofs.HelpLemmas.{asked}
use Rattle.command_words.proofs.readers.help_text.Goals as goal

pub returns : goal.returns
returns c =
    let words : List Text = map string_bytes c.args.words.now in
    IfOk-weaker c.help_in.result _ _ (λ text h. h.0 ∙ asked words c.in-Err.error c.in-Err.ensures.kinds h.1) c.help_in.ensures
