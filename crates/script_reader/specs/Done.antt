-- What may be done of a command of a script.
-- restates: this project's own profile
use Rattle.std.specs.Prelude.{◌≡◌, ◌≢◌, ◌⊎◌, ◌==◌, ℕ, max, Bool, true, false, List, [], ◌∷◌, ◌++◌, length, Option, Some, None, Result, Ok, Err}
use Rattle.sched_model.specs.Schedule.{Schedule}
use Rattle.sched_model.specs.States.{in_flight}
use Rattle.sched_events.specs.declared.answers.Answer.{Answer}
use Rattle.sched_events.specs.declared.events.Event.{Event}
use Rattle.sched_events.specs.declared.events.Event.TheVariants.{Tick}
use Rattle.answer_lines.specs.explain.Reasons.{IsUnexplained, explained}
use Rattle.answer_lines.specs.explain.declared.reasons.ExplainFault.{ExplainFault}
use Rattle.answer_lines.specs.explain.declared.reasons.Reason.{Reason}
use Rattle.command_words.specs.Commands.{taken}
use Rattle.command_words.specs.declared.takings.Taking.{Taking}
use Rattle.script_commands.specs.Commands.{Request}
use Rattle.script_commands.specs.declared.commands.ScriptCommand.TheVariants.{Step, TakeFile, TickNow, Drain, List as ListRows, Explain}
use Rattle.script_commands.specs.declared.commands.SourceFault.{SourceFault}
use Rattle.script_commands.specs.declared.commands.SourceFault.TheVariants.{Memory as NoMemory, NoEnd}
use Rattle.answer_lines.specs.sessions.History.{looks, told_in, ArePolled, AreReported, Asked, Step as RunStep, Told}
use Rattle.answer_lines.specs.sessions.Faults.{Fault}
use Rattle.answer_lines.specs.sessions.declared.clocks.ClockFault.{ClockFault}
use Rattle.answer_lines.specs.sessions.declared.line_reading.Line.{Line}
use Rattle.answer_lines.specs.sessions.declared.line_reading.Line.TheVariants as Says
use Rattle.answer_lines.specs.CommandFaults.{command_fault_text, source_text}
use Rattle.answer_lines.specs.Listings.{listing_text}
use Rattle.answer_lines.specs.Reasons.{explain_fault_text, reasons_text}
use Rattle.answer_lines.specs.RunFaults.{clock_text}
use Rattle.answer_lines.specs.Shown.{shown_text}
use Rattle.answer_lines.specs.declared.shown.Shown.TheVariants.{Done as ShowsDone}
use Rattle.script_reader.specs.Statuses.{command_status, explain_status, shown_for, status_of}

-- a path, and what the sources answered for it: the text of the file there, or why it is not read
abbrev pub FileAnswer : Type 0
FileAnswer = List ℕ × Result (List ℕ) SourceFault

-- from one state of sources to another they answered so, beyond what they had answered before
abbrev pub AnswersMore : {F : Type 0} → (F → List FileAnswer → F → Type 0) → List FileAnswer → F → F → Type 0
AnswersMore {F} gives texts old new = (s : F) (given : List FileAnswer) → gives s given old → gives s (given ++ texts) new

-- the sources were asked once, for this path, and gave this fault, which is not that a script ends too early
abbrev pub IsUnread : List ℕ → SourceFault → List FileAnswer → Type 0
IsUnread path fault texts = (fault ≢ NoEnd) × (texts ≡ (path, Err fault) ∷ [])

-- What was done of a command: what the sources answered for it, if it asked them, the steps of the run for it, which are its looks at a schedule,
-- or the event that it names, with what came of it, and before it the reports that were heard and what the clock gave for it; the status of its answer, and the
-- bytes that show it.
pub record Done : Type 0 where
  pub asked : Request
  pub texts : List FileAnswer
  pub steps : List RunStep
  pub status : ℕ
  pub shown : List ℕ

-- an event was answered: it was accepted, or it was not; the status and the text are those of the answer
abbrev pub IsEventAnswered : Event → List RunStep → ℕ → List ℕ → Type 0
IsEventAnswered e steps status shown =
    (answer : Result Answer Fault) × (steps ≡ Told e answer ∷ []) × (status ≡ status_of answer) × (shown ≡ shown_for e answer)

-- the text that a line takes in could not be had, for want of memory, so the line was answered when it was read
abbrev pub IsTextLacking : Event → List RunStep → ℕ → List ℕ → Type 0
IsTextLacking e steps status shown =
    (taking : Taking) × (text : List ℕ) × (e ≡ taken taking text) × ((a : Schedule) × (steps ≡ looks 1 a)) × (status ≡ 4) × (shown ≡ source_text NoMemory)

-- the sources were asked once, for this path: they gave a text, and the event that takes it in was accepted or not; or they gave a fault, and the command
-- was answered with it when it was read
abbrev pub IsFileTaken : Taking → List ℕ → List FileAnswer → List RunStep → ℕ → List ℕ → Type 0
IsFileTaken taking path texts steps status shown =
    ((fault : SourceFault) × IsUnread path fault texts × ((a : Schedule) × (steps ≡ looks 1 a)) × (status ≡ 4) × (shown ≡ source_text fault))
    ⊎ ((text : List ℕ) × (texts ≡ (path, Ok text) ∷ []) × IsEventAnswered (taken taking text) steps status shown)

-- the reports that were there were heard, and then the clock was asked: it gave none; or it gave a moment, and then the tick at it was accepted or not
abbrev pub IsTickTaken : List RunStep → ℕ → List ℕ → Type 0
IsTickTaken steps status shown =
    ((b : Schedule) × (fault : ClockFault) × (polled : List RunStep) × (steps ≡ polled ++ Asked b (Err fault) ∷ []) × ArePolled polled × (status ≡ 4) × (shown ≡ clock_text fault))
    ⊎ ((b : Schedule) × (moment : ℕ) × (polled told : List RunStep) × (steps ≡ polled ++ (Asked b (Ok moment) ∷ told)) × ArePolled polled × IsEventAnswered (Tick moment) told status shown)

-- a drain was answered: reports were heard, and then a schedule was looked at for it, in which no try is in flight
abbrev pub IsDrained : List RunStep → ℕ → List ℕ → Type 0
IsDrained steps status shown =
    ((a : Schedule) × (heard : List RunStep) × (steps ≡ heard ++ looks 1 a) × AreReported heard × (in_flight a ≡ 0)) × (status ≡ 0) × (shown ≡ shown_text ShowsDone)

-- The status and the text of a command that is answered when it is read, of this schedule and of what the sources answered for it: 0 and the rows for a
-- list; 0 and the reasons for a question that has an answer, and those of its fault for one that has none; those of the fault of what is no command. Of a
-- file that is not read they are those of the fault that the sources gave for its path, when they were asked once; no other command asks them.
abbrev pub IsAnswered : Schedule → Request → List FileAnswer → ℕ → List ℕ → Type 0
IsAnswered a (Ok (ListRows listing)) texts status shown = (texts ≡ []) × (status ≡ 0) × (shown ≡ listing_text a listing)
IsAnswered a (Ok (Explain q)) texts status shown =
    (texts ≡ [])
    × (((reasons : List Reason) × (explained a q.graph q.logical q.task ≡ Ok reasons) × (status ≡ 0) × (shown ≡ reasons_text reasons))
    ⊎ ((fault : ExplainFault) × IsUnexplained a q.graph q.logical q.task fault × (status ≡ explain_status fault) × (shown ≡ explain_fault_text fault)))
IsAnswered a (Ok (TakeFile taking path)) texts status shown = (fault : SourceFault) × IsUnread path fault texts × (status ≡ 4) × (shown ≡ source_text fault)
IsAnswered a (Ok (Step e)) texts status shown = ⊥
IsAnswered a (Ok TickNow) texts status shown = ⊥
IsAnswered a (Ok Drain) texts status shown = ⊥
IsAnswered a (Err fault) texts status shown = (texts ≡ []) × (status ≡ command_status fault) × (shown ≡ command_fault_text fault)

-- What may be done of a command, and the status and the text of that. A command that is answered when it is read is answered of the schedule that it
-- looked at, and so is a drain.
abbrev pub MayBeDone : Request → List FileAnswer → List RunStep → ℕ → List ℕ → Type 0
MayBeDone (Ok (Step e)) texts steps status shown = (texts ≡ []) × (IsEventAnswered e steps status shown ⊎ IsTextLacking e steps status shown)
MayBeDone (Ok (TakeFile taking path)) texts steps status shown = IsFileTaken taking path texts steps status shown
MayBeDone (Ok TickNow) texts steps status shown = (texts ≡ []) × IsTickTaken steps status shown
MayBeDone (Ok Drain) texts steps status shown = (texts ≡ []) × IsDrained steps status shown
MayBeDone asked texts steps status shown = (a : Schedule) × (steps ≡ looks 1 a) × IsAnswered a asked texts status shown

abbrev pub IsDone : Done → Type 0
IsDone d = MayBeDone d.asked d.texts d.steps d.status d.shown

-- the greatest status of what was done, 0 where nothing was
unfoldable pub greatest_status : List Done → ℕ
greatest_status [] = 0
greatest_status (d ∷ ds) = max d.status (greatest_status ds)

-- all is done of a command, where it names an event: the event was accepted; what is no command is not done
abbrev pub is_whole : Request → List RunStep → Bool
is_whole (Ok (Step e)) steps = length (told_in steps) == 1
is_whole (Ok (TakeFile taking path)) steps = length (told_in steps) == 1
is_whole (Ok TickNow) steps = length (told_in steps) == 1
is_whole (Ok _) steps = true
is_whole (Err fault) steps = false

-- the command that waits for its answer with this line, and what the sources answered for it
abbrev pub IsOpen : Option Line → List Request → List FileAnswer → Type 0
IsOpen None asked texts = (asked ≡ []) × (texts ≡ [])
IsOpen (Some (Says.Event e)) asked texts =
    ((asked ≡ Ok (Step e) ∷ []) × (texts ≡ []))
    ⊎ ((taking : Taking) × (path text : List ℕ) × (asked ≡ Ok (TakeFile taking path) ∷ []) × (texts ≡ (path, Ok text) ∷ []) × (e ≡ taken taking text))
IsOpen (Some Says.TickNow) asked texts = (asked ≡ Ok TickNow ∷ []) × (texts ≡ [])
IsOpen (Some Says.Drain) asked texts = (asked ≡ Ok Drain ∷ []) × (texts ≡ [])
