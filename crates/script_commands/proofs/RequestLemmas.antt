-- The commands of what is left of a script.
use Rattle.std.proofs.Common.{◌≡◌, ◌∙◌, ℕ, List, [], ◌∷◌, Option, Some, Ok, Err, refl, sym, ap, inl}
use Rattle.script_commands.specs.Lines.{lines_of, IsFirstLine}
use Rattle.script_commands.specs.Commands.{Request, IsFirst, meaning_of, given_by, commands_from, commands_in}
use Rattle.script_commands.specs.Commands.Place.{Outside, Inside}
use Rattle.script_commands.specs.declared.meanings.LineMeaning.{LineMeaning}
use Rattle.script_commands.specs.declared.meanings.LineMeaning.TheVariants as means
use Rattle.command_words.specs.declared.commands.UsageFault.{UsageFault}
use Rattle.command_words.specs.declared.takings.Taking.{Taking}
use Rattle.script_commands.specs.declared.commands.ScriptCommand.{ScriptCommand}
use Rattle.script_commands.specs.declared.commands.CommandFault.TheVariants.{Usage}

-- outside of a graph's text: the commands are those of what is left
pub record Left (rest : Option (List ℕ)) (commands : List Request) : Type 0 where
  pub left : List ℕ
  pub known : rest ≡ Some left
  pub same : commands ≡ commands_in left

-- the next line of bytes asks for this
abbrev pub Asks : List ℕ → LineMeaning → Option (List ℕ) → Type 0
Asks bytes asked rest = (line : List ℕ) × IsFirstLine bytes line rest × (asked ≡ meaning_of line)

-- what the next line gives, and what those after it give
pub commands-next : (bytes line left : List ℕ) (asked : LineMeaning) → lines_of bytes ≡ line ∷ lines_of left → asked ≡ meaning_of line → commands_in bytes ≡ given_by asked (λ place. commands_from place (lines_of left))
unfolding commands_in
commands-next bytes line left asked lines e =
    ap (commands_from Outside) lines ∙ ap (λ (a : LineMeaning). given_by a (λ place. commands_from place (lines_of left))) (sym e)

-- a line that asks for nothing
pub left-nothing : (rest rest' : Option (List ℕ)) (commands : List Request) (l : Left rest commands) → Asks l.left means.Nothing rest' → Left rest' commands
unfolding commands_in
left-nothing rest rest' commands l (line, first, e) =
    record { left = first.left; known = first.known; same = l.same ∙ commands-next l.left line first.left means.Nothing first.lines e }

-- the end of the script
pub left-end : (rest rest' : Option (List ℕ)) (commands : List Request) (l : Left rest commands) → l.left ≡ [] → commands ≡ []
unfolding commands_in
left-end rest rest' commands l e = l.same ∙ ap commands_in e

-- a command of one line
pub left-this : (rest rest' : Option (List ℕ)) (commands : List Request) (command : ScriptCommand) (l : Left rest commands) → Asks l.left (means.This command) rest' → IsFirst commands (Ok command) rest'
unfolding commands_in
left-this rest rest' commands command l (line, first, e) = record {
  wanted = Ok command;
  left = first.left;
  known = first.known;
  first = l.same ∙ commands-next l.left line first.left (means.This command) first.lines e;
  same = inl refl;
}

-- a line that is no command
pub left-fault : (rest rest' : Option (List ℕ)) (commands : List Request) (fault : UsageFault) (l : Left rest commands) → Asks l.left (means.Fault fault) rest' → IsFirst commands (Err (Usage fault)) rest'
unfolding commands_in
left-fault rest rest' commands fault l (line, first, e) = record {
  wanted = Err (Usage fault);
  left = first.left;
  known = first.known;
  first = l.same ∙ commands-next l.left line first.left (means.Fault fault) first.lines e;
  same = inl refl;
}

-- a graph's text
pub left-text : (rest rest' rest'' : Option (List ℕ)) (commands : List Request) (given : Request) (taking : Taking) (l : Left rest commands) → Asks l.left (means.Text taking) rest' → ((bytes : List ℕ) → rest' ≡ Some bytes → IsFirst (commands_from (Inside taking (Some [])) (lines_of bytes)) given rest'') → IsFirst commands given rest''
unfolding commands_in
left-text rest rest' rest'' commands given taking l (line, first, e) text =
    let at = text first.left first.known in
    record {
      wanted = at.wanted;
      left = at.left;
      known = at.known;
      first = l.same ∙ (commands-next l.left line first.left (means.Text taking) first.lines e ∙ at.first);
      same = at.same;
    }
