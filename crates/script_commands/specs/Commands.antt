-- The commands of a script.
use Rattle.std.specs.Prelude.{◌≡◌, ◌⊎◌, ℕ, Bool, true, not, ◌==◌, ◌&&◌, ◌||◌, nat_lt, if◌then◌else◌, List, [], ◌∷◌, ◌++◌, length, slice_index, codes, Option, Some, None, MatchOption, option_map, Result, Ok, Err}
use Rattle.std.specs.Str.{bytes_eq, is_utf8}
use Rattle.text_words.specs.Words.{words}
use Rattle.script_commands.specs.Lines.{lines_of, line_limit, newline, IsFirstLine}
use Rattle.command_words.specs.Commands.{taken}
use Rattle.command_words.specs.declared.takings.Taking.{Taking}
use Rattle.command_words.specs.declared.commands.UsageFault.TheVariants.{BadLine}
use Rattle.script_commands.specs.Meanings.{meaning_by, is_of_script, IsReadAs}
use Rattle.script_commands.specs.declared.meanings.LineMeaning.{LineMeaning}
use Rattle.script_commands.specs.declared.meanings.LineMeaning.TheVariants as means
use Rattle.script_commands.specs.declared.commands.ScriptCommand.{ScriptCommand}
use Rattle.script_commands.specs.declared.commands.ScriptCommand.TheVariants.{Step}
use Rattle.script_commands.specs.declared.commands.SourceFault.TheVariants.{NoEnd, Memory}
use Rattle.script_commands.specs.declared.commands.CommandFault.{CommandFault}
use Rattle.script_commands.specs.declared.commands.CommandFault.TheVariants.{Usage, Source}

-- what a script has in a command's place
abbrev pub Request : Type 0
Request = Result ScriptCommand CommandFault

-- a bad line: longer than the limit, or no UTF-8
-- restates: this project's own profile
abbrev pub is_bad : List ℕ → Bool
is_bad line = nat_lt line_limit (length line) || not (is_utf8 line)

-- a comment begins with `#`
-- restates: this project's own profile
abbrev pub is_comment : List ℕ → Bool
is_comment line = nat_lt 0 (length line) && (slice_index line 0 == 35)

-- a line that is passed over: a comment, or one without a word
-- restates: this project's own profile
abbrev pub is_skipped : List ℕ → Bool
is_skipped line = is_comment line || (length (words line) == 0)

-- what a line outside of a graph's text asks for; one that is passed over asks for nothing, be it bad or not
-- restates: this project's own profile
abbrev pub meaning_of : List ℕ → LineMeaning
meaning_of line =
    if is_skipped line then means.Nothing
    else (if is_bad line then means.Fault BadLine else meaning_by (words line))

-- where a script stands: outside of a graph's text, or inside of one that is taken in so, with what it has so far, or none after a bad line
pub data Place : Type 0 where
  Outside : Place
  Inside : Taking → Option (List ℕ) → Place

-- one more line of a graph's text, with its newline
-- restates: this project's own profile
abbrev pub with_newline : Option (List ℕ) → List ℕ → Option (List ℕ)
with_newline text line = option_map (λ t. t ++ (line ++ newline ∷ [])) text

-- a bad line leaves no text
-- restates: this project's own profile
abbrev pub with_line : Option (List ℕ) → List ℕ → Option (List ℕ)
with_line text line = if is_bad line then None else with_newline text line

-- what a graph's text asks for that is taken in so
-- restates: this project's own profile
abbrev pub take_of : Taking → Option (List ℕ) → Request
take_of taking (Some text) = Ok (Step (taken taking text))
take_of taking None = Err (Usage BadLine)

-- what an asking line gives, before what the lines after it give from a place on
abbrev pub given_by : LineMeaning → (Place → List Request) → List Request
given_by means.Nothing after = after Outside
given_by (means.Text taking) after = after (Inside taking (Some []))
given_by (means.This command) after = Ok command ∷ after Outside
given_by (means.Fault fault) after = Err (Usage fault) ∷ after Outside

-- the line that ends a graph's text
-- restates: this project's own profile
abbrev pub ends_text : List ℕ → Bool
ends_text line = bytes_eq line (codes ".")

-- the commands of lines from a place on
abbrev pub commands_from : Place → List (List ℕ) → List Request
commands_from Outside [] = []
commands_from (Inside taking text) [] = Err (Source NoEnd) ∷ []
commands_from Outside (l ∷ ls) = given_by (meaning_of l) (λ place. commands_from place ls)
commands_from (Inside taking text) (l ∷ ls) =
    if ends_text l then take_of taking text ∷ commands_from Outside ls else commands_from (Inside taking (with_line text l)) ls

-- the commands of a script's bytes, in order
unfoldable pub commands_in : List ℕ → List Request
commands_in bytes = commands_from Outside (lines_of bytes)

-- what the next line of bytes asks for, or their end
abbrev pub IsMeaning : {E : Type 0} → List ℕ → Option (Result LineMeaning E) → Option (List ℕ) → Type 0
IsMeaning bytes next rest = MatchOption next ((bytes ≡ []) × (rest ≡ Some []))
    (λ asked. (line : List ℕ) × IsFirstLine bytes line rest × IsReadAs (meaning_of line) asked)

-- want of memory can come in the place of a graph's text, and of nothing else
abbrev pub IsGiven : Request → Request → Type 0
IsGiven wanted given = (given ≡ wanted) ⊎ ((given ≡ Err (Source Memory)) × ((taking : Taking) × (text : List ℕ) × (wanted ≡ Ok (Step (taken taking text)))))

-- of these commands the first is given; the others are those of the bytes that are left
pub record IsFirst (commands : List Request) (given : Request) (rest : Option (List ℕ)) : Type 0 where
  pub wanted : Request
  pub left : List ℕ
  pub known : rest ≡ Some left
  pub first : commands ≡ wanted ∷ commands_in left
  pub same : IsGiven wanted given

-- what a script has is no report of a worker and no restart
-- restates: this project's own profile
abbrev pub is_asked : Request → Bool
is_asked (Ok command) = is_of_script command
is_asked (Err fault) = true

-- the next command of bytes, or their end
abbrev pub IsNext : List ℕ → Option Request → Option (List ℕ) → Type 0
IsNext bytes next rest = MatchOption next ((commands_in bytes ≡ []) × (rest ≡ Some [])) (λ given. IsFirst (commands_in bytes) given rest)
