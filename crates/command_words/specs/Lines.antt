-- The command line that words say, or their fault.
use Rattle.std.specs.Prelude.{◌≡◌, ◌≢◌, Bool, true, false, List, [], ◌∷◌, codes, Option, Some, None, Result, Ok, Err, MatchResult}
use Rattle.clap.specs.Words.{Row, Text, first_of, matches_of, subcommand_of, fault_of}
use Rattle.clap.specs.Kinds.{Kinds}
use Rattle.clap.specs.declared.error.kind.ErrorKind.{ErrorKind}
use Rattle.clap.specs.declared.error.kind.ErrorKind.TheVariants.{DisplayHelp, DisplayVersion, OutOfMemory}
use Rattle.word_app.specs.App.{dagsched}
use Rattle.command_words.specs.declared.commands.UsageFault.{UsageFault}
use Rattle.command_words.specs.declared.commands.UsageFault.TheVariants.{Words, Memory}
use Rattle.command_words.specs.declared.commands.Command.{Command}
use Rattle.command_words.specs.declared.commands.CommandLine.{CommandLine}
use Rattle.command_words.specs.declared.kinds.CommandKind.{CommandKind}
use Rattle.command_words.specs.Values.{after}
use Rattle.command_words.specs.Commands.{command_in, kind_named}

-- restates: clap 4: `Command::try_get_matches_from`
abbrev pub command_of_kind : Option CommandKind → List Row → Result Command UsageFault
command_of_kind None rows = Err Words
command_of_kind (Some kind) rows = command_in kind rows

-- what the command says, by its name and its matches
-- restates: clap 4: `Command::try_get_matches_from`
abbrev pub command_at : Option (Text × List Row) → Result Command UsageFault
command_at None = Err Words
command_at (Some entered) = command_of_kind (kind_named entered.0) entered.1

-- what the matches say: those of the options before the command, and those of the command
-- restates: clap 4: `Command::try_get_matches_from`
abbrev pub line_at : List Row → Option (Text × List Row) → Result CommandLine UsageFault
line_at rows entered = after (command_at entered) (λ command. Ok (record { record_path = first_of (codes "record") rows; command = command }))

-- restates: clap 4: `Command::try_get_matches_from`
abbrev pub line_unless : Kinds → List Row → Option (Text × List Row) → Result CommandLine UsageFault
line_unless [] rows entered = line_at rows entered
line_unless (kind ∷ kinds) rows entered = Err Words

-- the command line that words say, or their fault: Words where clap refuses them, and else the first name or moment that is none
-- restates: clap 4: `Command::try_get_matches_from`
abbrev pub line_of : List Text → Result CommandLine UsageFault
line_of words = line_unless (fault_of dagsched words) (matches_of dagsched words) (subcommand_of dagsched words)

-- the fault of words that clap refuses, by its cause
abbrev pub usage_of : ErrorKind → UsageFault
usage_of OutOfMemory = Memory
usage_of _ = Words

-- what is read is what the words say, but for want of memory
abbrev pub IsRead : List Text → Result CommandLine UsageFault → Type 0
IsRead words read = MatchResult read (λ line. line_of words ≡ Ok line) (λ fault. fault ≢ Memory → line_of words ≡ Err fault)

-- clap refuses the words
-- restates: clap 4
abbrev pub is_faulty : Kinds → Bool
is_faulty [] = false
is_faulty (kind ∷ kinds) = true

-- clap finds a fault in the words
-- restates: clap 4
abbrev pub is_refused : List Text → Bool
is_refused words = is_faulty (fault_of dagsched words)

-- an error of this kind has the help, or the version, as its text
-- restates: clap 4: `ErrorKind::DisplayHelp`, `DisplayVersion`
abbrev pub shows_help : ErrorKind → Bool
shows_help DisplayHelp = true
shows_help DisplayVersion = true
shows_help _ = false

-- clap answers by help or by the version, and by nothing else
-- restates: clap 4: `ErrorKind::DisplayHelp`, `DisplayVersion`
abbrev pub is_help : Kinds → Bool
is_help (kind ∷ []) = shows_help kind
is_help _ = false

-- clap answers the words by help or by the version: they ask for it, and clap finds no fault before it comes to the word that does
-- restates: clap 4: `ErrorKind::DisplayHelp`, `DisplayVersion`
abbrev pub asks_for_help : List Text → Bool
asks_for_help words = is_help (fault_of dagsched words)
