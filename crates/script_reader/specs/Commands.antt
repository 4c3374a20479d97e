-- What is done of one command when it is read.
use Rattle.std.specs.Prelude.{◌≡◌, ℕ, Bool, true, false, List, [], ◌∷◌, Option, Some, None, Result, Ok, Err}
use Rattle.sched_model.specs.Schedule.{Schedule}
use Rattle.command_words.specs.Commands.{taken}
use Rattle.script_commands.specs.Commands.{Request}
use Rattle.script_commands.specs.declared.commands.ScriptCommand.TheVariants.{Step, TakeFile, TickNow, Drain}
use Rattle.script_reader.specs.Answers.{IsPut}
use Rattle.script_reader.specs.Done.{FileAnswer, IsAnswered}
use Rattle.script_reader.specs.declared.answers.Answers.{Answers}
use Rattle.answer_lines.specs.sessions.declared.line_reading.Line.{Line}
use Rattle.answer_lines.specs.sessions.declared.line_reading.Line.TheVariants as Says

-- the line that a command leaves to the run, and what the sources answered for it: for a file its text, which the line takes in
abbrev pub Leaves : Request → List FileAnswer → Line → Type 0
Leaves (Ok (Step e)) texts line = (texts ≡ []) × (line ≡ Says.Event e)
Leaves (Ok (TakeFile taking path)) texts line = (text : List ℕ) × (texts ≡ (path, Ok text) ∷ []) × (line ≡ Says.Event (taken taking text))
Leaves (Ok TickNow) texts line = (texts ≡ []) × (line ≡ Says.TickNow)
Leaves (Ok Drain) texts line = (texts ≡ []) × (line ≡ Says.Drain)
Leaves _ texts line = ⊥

-- the line that was read, if one was
abbrev pub line_of : {E : Type 0} → Result (Option Line) E → Option Line
line_of (Ok line) = line
line_of (Err error) = None

module _ {W P : Type 0} (contents : W → Option (List ℕ)) where
  -- a command that was read is answered, of this schedule and of what the sources answered for it: its answer is put, and is written or not
  abbrev pub Answered : {T E : Type 0} → Schedule → Request → List FileAnswer → Result T E → Answers W P → Answers W P → Type 0
  Answered a asked texts put old new = (status : ℕ) × (shown : List ℕ) × IsAnswered a asked texts status shown × IsPut contents shown status put old new

  -- what is done of a command when it is read: it leaves a line to the run, and nothing is put; or it is answered
  abbrev pub Does : {E : Type 0} → Schedule → Request → List FileAnswer → Result (Option Line) E → Answers W P → Answers W P → Type 0
  Does {E} a asked texts (Ok (Some line)) old new = Leaves asked texts line × (new ≡ old)
  Does {E} a asked texts (Ok None) old new = Answered {T = Option Line} {E = E} a asked texts (Ok None) old new
  Does {E} a asked texts (Err error) old new = Answered {T = Option Line} {E = E} a asked texts (Err error) old new

-- nothing was read, since the script is over
abbrev pub is_end : {E : Type 0} → Result (Option Line) E → Bool
is_end (Ok None) = true
is_end _ = false
