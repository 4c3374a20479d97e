use Rattle.std.proofs.Common.{◌≡◌, ◌∙◌, ap, subst, sym, map, List}
use Rattle.std.specs.Prelude.{string_bytes}
use Rattle.std.proofs.lemmas.Result.{IfOk-weaker}
use Rattle.clap.specs.Words.{App, Kinds, Text, app_of, is_simple, is_simple_and_free, matches_of, subcommand_of, fault_of, FailsBy}
use Rattle.word_app.specs.App.{dagsched_at}
use Rattle.command_words.proofs.AppLemmas.{simple, free}
use Rattle.command_words.proofs.ListedLemmas.{fault_listed, matches_listed, subcommand_listed}
use Rattle.command_words.proofs.readers.parsed.Goals as goal

pub returns : goal.returns
returns c =
    let names = c.args.names in
    let e : app_of c.in_ok-command.command ≡ dagsched_at names = c.in_ok-command.ensures in
    let parse = c.try_get_matches_from in
    let words : List Text = map string_bytes c.args.words.now in
    record {
      rows = IfOk-weaker parse.result _ _ (λ m h. (h (ap is_simple e ∙ simple names)).0 ∙ ap (λ (a : App). matches_of a words) e ∙ sym (matches_listed names c.requires words)) parse.ensures.matches;
      subcommand = IfOk-weaker parse.result _ _
          (λ m h. (h (ap is_simple e ∙ simple names)).1 ∙ ap (λ (a : App). subcommand_of a words) e ∙ sym (subcommand_listed names c.requires words)) parse.ensures.matches;
      kinds = subst (λ (k : Kinds). FailsBy k parse.result) (sym (fault_listed names c.requires words))
          (subst (λ (a : App). FailsBy (fault_of a words) parse.result) e (parse.ensures.kinds (ap is_simple_and_free e ∙ free names)));
    }
