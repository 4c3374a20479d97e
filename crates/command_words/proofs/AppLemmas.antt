-- The command is one whose matches clap states.
use Rattle.std.proofs.Common.{◌≡◌, true, refl}
use Rattle.std.specs.List.{list_all}
use Rattle.clap.specs.Simple.{built}
use Rattle.clap.specs.Words.{is_simple, is_simple_and_free}
use Rattle.clap.proofs.OnLiterals.{clap_on_literals}
use Rattle.word_app.specs.App.{Texts, dagsched, dagsched_at}

pub simple : (names : Texts) → is_simple (dagsched_at names) ≡ true
unfolding clap_on_literals
simple names = refl

pub free : (names : Texts) → is_simple_and_free (dagsched_at names) ≡ true
unfolding clap_on_literals
free names = refl

-- `help` is no command, of the program and of its commands
pub no_help_command : (built dagsched).top.disable_help_subcommand ≡ true
unfolding clap_on_literals
no_help_command = refl

pub no_help_commands : list_all (λ s. s.disable_help_subcommand) (built dagsched).subs ≡ true
unfolding clap_on_literals
no_help_commands = refl
