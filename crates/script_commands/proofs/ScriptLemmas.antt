-- No line asks for a report of a worker or a restart.
use Rattle.std.proofs.Common.{◌≡◌, ◌∙◌, ℕ, Bool, true, false, cond, List, Option, Some, None, Result, Ok, Err, IfOk, refl, ap}
use Rattle.clap.specs.Words.{Text}
use Rattle.text_words.specs.Words.{words}
use Rattle.sched_events.specs.declared.events.Event.{Event}
use Rattle.sched_events.specs.declared.events.Event.TheVariants.{Report, Restart}
use Rattle.command_words.specs.Commands.{is_of_words, taken}
use Rattle.command_words.specs.Lines.{line_of}
use Rattle.command_words.specs.declared.commands.Command.{Command}
use Rattle.command_words.specs.declared.commands.Command.TheVariants as says
use Rattle.command_words.specs.declared.commands.CommandLine.{CommandLine}
use Rattle.command_words.specs.declared.commands.GraphSource.TheVariants.{File, Inline}
use Rattle.command_words.specs.declared.commands.TickTime.TheVariants.{At, Now}
use Rattle.command_words.specs.declared.commands.UsageFault.{UsageFault}
use Rattle.command_words.specs.declared.takings.Taking.{Taking}
use Rattle.command_words.specs.declared.takings.Taking.TheVariants as takings
use Rattle.script_commands.specs.Commands.{is_bad, is_skipped, meaning_of}
use Rattle.script_commands.specs.Meanings.{asks_of_script, is_of_script, IsReadAs, meaning_by, of_command, of_parts, of_reading}
use Rattle.script_commands.specs.declared.commands.ScriptCommand.TheVariants.{Step}
use Rattle.script_commands.specs.declared.meanings.LineMeaning.{LineMeaning}

abbrev Good : LineMeaning → Type 0
Good m = asks_of_script m ≡ true

-- one of two good ones is good
either : (b : Bool) (x y : LineMeaning) → Good x → Good y → Good (cond b x y)
either true x y gx gy = gx
either false x y gx gy = gy

-- a text that is taken in
pub good_text : (taking : Taking) (text : List ℕ) → is_of_script (Step (taken taking text)) ≡ true
good_text takings.Load text = refl
good_text takings.Replace text = refl

good_event : (e : Event) → is_of_words (says.Step e) ≡ true → is_of_script (Step e) ≡ true
good_event (Report serial stage) given = given
good_event (Restart lanes) given = given
good_event _ given = refl

good_command : (command : Command) → is_of_words command ≡ true → Good (of_command command)
good_command (says.Run options) given = refl
good_command (says.List listing) given = refl
good_command (says.Explain question) given = refl
good_command (says.Step e) given = good_event e given
good_command (says.Take taking (File path)) given = refl
good_command (says.Take taking Inline) given = refl
good_command (says.Tick (At moment)) given = refl
good_command (says.Tick Now) given = refl
good_command says.Drain given = refl

good_parts : (path : Option Text) (command : Command) → is_of_words command ≡ true → Good (of_parts path command)
good_parts (Some path) command given = refl
good_parts None command given = good_command command given

good_reading : (r : Result CommandLine UsageFault) → ((line : CommandLine) → r ≡ Ok line → is_of_words line.command ≡ true) → Good (of_reading r)
good_reading (Ok line) given = good_parts line.record_path line.command (given line refl)
good_reading (Err fault) given = refl

-- words ask for no report, as the law of words has it
abbrev pub AskForNoReport : Type 0
AskForNoReport = (words : List Text) (line : CommandLine) → line_of words ≡ Ok line → is_of_words line.command ≡ true

module _ (law : AskForNoReport) where
  good_words : (ws : List Text) → Good (meaning_by ws)
  unfolding meaning_by
  good_words ws = good_reading (line_of ws) (law ws)

  pub good_line : (line : List ℕ) → Good (meaning_of line)
  good_line line = either (is_skipped line) _ _ refl (either (is_bad line) _ _ refl (good_words (words line)))

  -- what is read as a good line
  pub good_read : {E : Type 0} (line : List ℕ) (r : Result LineMeaning E) → IsReadAs (meaning_of line) r → IfOk r (λ m. asks_of_script m ≡ true)
  good_read line (Ok m) is = ap asks_of_script is ∙ good_line line
  good_read line (Err lack) is = tt
