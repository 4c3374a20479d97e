-- What a look at a record shows.
-- restates: this project's own profile
use Rattle.std.specs.Prelude.{◌≡◌, ◌⊎◌, ℕ, Bool, List, Option, Result, Ok, IfErr, IfOk, IsTrue, MatchResult}
use Rattle.sqlite.specs.Held.{Held}
use Rattle.sqlite.specs.State.{State, HasCleanDisk, Survives}
use Rattle.sched_state.specs.Limits.{ceilings}
use Rattle.sched_events.specs.SettledAndSound.{IsSoundAndSaid}
use Rattle.sched_model.specs.Schedule.{Schedule}
use Rattle.director.specs.Directors.{ScheduleValue}
use Rattle.director.specs.meta_store.Loads.{IsLoadFault, ReadsAs}
use Rattle.director.specs.meta_store.declared.faults.StoreFault.{StoreFault}
use Rattle.director.specs.Faults.{IsGivenFault, IsOfStore}
use Rattle.director.specs.declared.faults.Fault.{Fault}
use Rattle.command_words.specs.declared.commands.Listing.{Listing}
use Rattle.command_words.specs.declared.commands.Question.{Question}
use Rattle.script_reader.specs.answer_lines.explain.Reasons.{IsUnexplained, explained}
use Rattle.script_reader.specs.answer_lines.explain.declared.reasons.ExplainFault.{ExplainFault}
use Rattle.script_reader.specs.answer_lines.explain.declared.reasons.Reason.{Reason}
use Rattle.script_reader.specs.answer_lines.Listings.{listing_text}
use Rattle.script_reader.specs.answer_lines.Reasons.{explain_fault_text, reasons_text}
use Rattle.script_reader.specs.answer_lines.RecordFaults.{failure_text}
use Rattle.script_reader.specs.Statuses.{explain_status, failure_status}
use Rattle.command_runner.specs.Writes.{IsWritten}

-- the schedule that a record holds, which follows the rules of schedules, whatever the disk gave, or why it is not read, with an error that SQLite gave since;
-- the record is as it was, after a crash too
pub record IsRead {S : Type 0} (look : Held S → State) (before after : Held S) (read : Result ScheduleValue Fault) : Type 0 where
  pub schedule : IfOk read (λ a. IsSoundAndSaid a.content × (HasCleanDisk (look after) → ReadsAs ceilings (look before).now a.content))
  pub fault : IfErr read (λ said. (fault : StoreFault) × IsOfStore fault said × (HasCleanDisk (look after) → IsLoadFault ceilings (look before).now fault))
  pub given : HasCleanDisk (look after) → IfErr read (IsGivenFault (look before) (look after))
  pub kept : HasCleanDisk (look after) → IsTrue (look after).is_open → ((look after).now ≡ (look before).now) × ((look after).committed ≡ (look before).committed)
  pub crash : Survives (look before) (look after) (λ _. ⊥)

-- this is told of a schedule that is read, or why it is not read
abbrev pub IsToldOf : Result ScheduleValue Fault → (Schedule → Type 0) → Option (List ℕ) → Option (List ℕ) → Bool → ℕ → Type 0
IsToldOf read answered old new told status = MatchResult read (λ a. answered a.content) (λ fault. IsWritten (failure_text fault) (failure_status fault) old new told status)

-- rows are told
abbrev pub AreRowsTold : Result ScheduleValue Fault → Listing → Option (List ℕ) → Option (List ℕ) → Bool → ℕ → Type 0
AreRowsTold read listing old new told status = IsToldOf read (λ a. IsWritten (listing_text a listing) 0 old new told status) old new told status

-- the reasons are told, or why there are none
abbrev pub IsAnswered : Schedule → Question → Option (List ℕ) → Option (List ℕ) → Bool → ℕ → Type 0
IsAnswered a q old new told status =
    ((reasons : List Reason) × (explained a q.graph q.logical q.task ≡ Ok reasons) × IsWritten (reasons_text reasons) 0 old new told status)
    ⊎ ((fault : ExplainFault) × IsUnexplained a q.graph q.logical q.task fault × IsWritten (explain_fault_text fault) (explain_status fault) old new told status)

abbrev pub AreReasonsTold : Result ScheduleValue Fault → Question → Option (List ℕ) → Option (List ℕ) → Bool → ℕ → Type 0
AreReasonsTold read q old new told status = IsToldOf read (λ a. IsAnswered a q old new told status) old new told status

-- what was read is told
abbrev pub IsListingDone : {S : Type 0} → (Held S → State) → Held S → Listing → Option (List ℕ) → Option (List ℕ) → Held S → Bool → ℕ → Type 0
IsListingDone look before listing old new after told status = (read : Result ScheduleValue Fault) × IsRead look before after read × AreRowsTold read listing old new told status

abbrev pub IsQuestionDone : {S : Type 0} → (Held S → State) → Held S → Question → Option (List ℕ) → Option (List ℕ) → Held S → Bool → ℕ → Type 0
IsQuestionDone look before q old new after told status = (read : Result ScheduleValue Fault) × IsRead look before after read × AreReasonsTold read q old new told status
