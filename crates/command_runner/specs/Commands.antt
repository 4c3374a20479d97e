-- What a command outside of scripts does.
-- restates: this project's own profile
use Rattle.std.specs.Prelude.{◌≡◌, ℕ, Bool, List, Option}
use Rattle.sqlite.specs.Held.{Held}
use Rattle.sqlite.specs.State.{State}
use Rattle.command_words.specs.declared.commands.Command.{Command}
use Rattle.command_words.specs.declared.commands.Command.TheVariants as says
use Rattle.command_words.specs.declared.commands.UsageFault.TheVariants.{NotHere}
use Rattle.script_reader.specs.answer_lines.CommandFaults.{usage_text}
use Rattle.command_runner.specs.Events.{IsEventDone}
use Rattle.command_runner.specs.Looks.{IsListingDone, IsQuestionDone}
use Rattle.command_runner.specs.Writes.{IsWritten}

-- an event is stepped, rows are shown, a question is answered; what has no place here is told so, and the record is as it was
abbrev pub IsDone : {S : Type 0} → (Held S → State) → Held S → Command → Option (List ℕ) → Option (List ℕ) → Held S → Bool → ℕ → Type 0
IsDone look before (says.Step e) old new after told status = IsEventDone look before e old new after told status
IsDone look before (says.List listing) old new after told status = IsListingDone look before listing old new after told status
IsDone look before (says.Explain q) old new after told status = IsQuestionDone look before q old new after told status
IsDone look before _ old new after told status = (after ≡ before) × IsWritten (usage_text NotHere) 2 old new told status
