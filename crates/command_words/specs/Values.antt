-- What the matches of a command say, value by value.
use Rattle.std.specs.Prelude.{ℕ, ◌&&◌, Bool, false, nat_le, if◌then◌else◌, List, [], codes, Option, Some, None, unwrap_or, option_and_then, Result, Ok, Err, bytes_eq}
use Rattle.std.specs.Str.Parse.{digits_value, without_leading_plus}
use Rattle.clap.specs.Words.{Row, Text, first_of, one_of}
use Rattle.clap.specs.ValueTests.{accepts}
use Rattle.clap.specs.declared.builder.value_parser.ValueParser.TheVariants.{Unsigned}
use Rattle.graph_file.specs.Names.{is_name}
use Rattle.moment_core.specs.Reading.{read_of}
use Rattle.moment_core.specs.declared.reading.MomentFault.{MomentFault}
use Rattle.command_words.specs.declared.commands.UsageFault.{UsageFault}
use Rattle.command_words.specs.declared.commands.UsageFault.TheVariants.{BadName, BadMoment, BadState}

-- a word, where one that is not there is the empty text: clap lets no such words through
-- restates: clap 4: `ArgMatches`
abbrev pub text_at : Text → List Row → Text
text_at id rows = unwrap_or (first_of id rows) []

-- the flag is given
-- restates: clap 4: `ArgMatches`
abbrev pub flag_at : Text → List Row → Bool
flag_at id rows = bytes_eq (text_at id rows) (codes "true")

-- the number that a text is
-- restates: clap 4: `ArgMatches`
abbrev pub number_of : Text → Option ℕ
number_of text = if accepts false (Unsigned 0 4294967295) text then Some (digits_value 10 (without_leading_plus text)) else None

-- a number in its range, where one that is not there or lies outside is the least: clap lets no such words through
-- restates: clap 4: `ArgMatches`
abbrev pub ranged : ℕ → ℕ → Option ℕ → ℕ
ranged low high None = low
ranged low high (Some n) = if nat_le low n && nat_le n high then n else low

-- restates: clap 4: `ArgMatches`
abbrev pub number_at : ℕ → ℕ → Text → List Row → ℕ
number_at low high id rows = ranged low high (option_and_then number_of (one_of id rows))

-- the name that a text is
-- restates: this project's own profile
abbrev pub name_of : Text → Result Text UsageFault
name_of text = if is_name text then Ok text else Err BadName

-- restates: this project's own profile
abbrev pub name_at : Text → List Row → Result Text UsageFault
name_at id rows = name_of (text_at id rows)

-- restates: this project's own profile
abbrev pub some_name : Option Text → Result (Option Text) UsageFault
some_name None = Ok None
some_name (Some text) = if is_name text then Ok (Some text) else Err BadName

-- the moment that a text is
-- restates: this project's own profile
abbrev pub moment_from : Result ℕ MomentFault → Result ℕ UsageFault
moment_from (Ok moment) = Ok moment
moment_from (Err fault) = Err (BadMoment fault)

-- restates: this project's own profile
abbrev pub moment_of : Text → Result ℕ UsageFault
moment_of text = moment_from (read_of text)

-- restates: this project's own profile
abbrev pub moment_at : Text → List Row → Result ℕ UsageFault
moment_at id rows = moment_of (text_at id rows)

-- the text is `skipped`
-- restates: this project's own profile
abbrev pub skipped_of : Text → Result (Unit {0}) UsageFault
skipped_of text = if bytes_eq text (codes "skipped") then Ok tt else Err BadState

-- what is read next, where what was read before has no fault
abbrev pub after : {A B : Type 0} → Result A UsageFault → (A → Result B UsageFault) → Result B UsageFault
after (Ok a) next = next a
after (Err fault) next = Err fault
