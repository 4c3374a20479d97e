use Rattle.std.proofs.Common.{◌≡◌, ◌∙◌, ap, map, List}
use Rattle.std.specs.Prelude.{string_bytes}
use Rattle.clap.specs.Words.{Text, kind_of, matches_of, subcommand_of, fault_of}
use Rattle.word_app.specs.App.{dagsched}
use Rattle.command_words.specs.Lines.{usage_of}
use Rattle.command_words.proofs.WordsLemmas.{refused}
use Rattle.command_words.proofs.readers.read_command.Goals as goal

pub returns-in-Err : goal.returns-in-Err
returns-in-Err c =
    let is : c.usage_of.result ≡ usage_of (kind_of c.in-Err.error) = c.usage_of.ensures ∙ ap usage_of c.kind.ensures in
    let words : List Text = map string_bytes c.args.words.now in
    rw is (λ other. refused (fault_of dagsched words) c.in-Err.error (matches_of dagsched words) (subcommand_of dagsched words) c.in-Err.ensures.kinds other)
