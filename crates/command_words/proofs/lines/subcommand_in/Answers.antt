use Rattle.std.proofs.Common.{◌∙◌}
use Rattle.clap.specs.Words.{found_of, rows_of, subcommand_rows_of}
use Rattle.clap.specs.declared.parser.matches.ArgMatches.TheViews.{out-ArgMatches}
use Rattle.command_words.proofs.MatchLemmas.{paired, name_of_rows}
use Rattle.command_words.proofs.lines.subcommand_in.Goals as goal

pub returns : goal.returns
returns c = paired (λ p. p.0.now) (λ p. rows_of (found_of p.1.now)) c.subcommand.result (subcommand_rows_of c.args.matches.now)
    (c.subcommand.ensures.name ∙ name_of_rows (out-ArgMatches c.args.matches.now).subcommand) c.subcommand.ensures.rows
