-- What is written out of the answer to a command outside of scripts.
use Rattle.std.proofs.Common.{◌≡◌, ◌∙◌, ℕ, Bool, true, false, List, Option, None, Some, Result, Ok, Err, inl, inr}
use Rattle.std.specs.Io.KnownBytes.{Appends, Keeps}
use Rattle.sqlite.specs.Held.{Held}
use Rattle.sqlite.specs.State.{State}
use Rattle.command_words.specs.declared.commands.Command.{Command}
use Rattle.command_words.specs.declared.commands.Command.TheVariants as says
use Rattle.command_words.specs.declared.commands.Listing.{Listing}
use Rattle.command_words.specs.declared.commands.Question.{Question}
use Rattle.director.specs.Directors.{ScheduleValue}
use Rattle.director.specs.declared.faults.Fault.{Fault}
use Rattle.command_runner.specs.Commands.{IsDone}
use Rattle.command_runner.specs.Looks.{AreReasonsTold, AreRowsTold}
use Rattle.command_runner.specs.Writes.{IsWritten}

appends_kept : (old mid new : Option (List ℕ)) (text : List ℕ) → Keeps mid new → Appends old mid text → Appends old new text
appends_kept None mid new text kept grew = tt
appends_kept (Some xs) None new text kept grew = absurd grew
appends_kept (Some xs) (Some ys) None text kept grew = absurd kept
appends_kept (Some xs) (Some ys) (Some zs) text kept grew = kept ∙ grew

-- what was written stays, where the bytes stay
pub written_out : (old mid new : Option (List ℕ)) → Keeps mid new → (told : Bool) (status : ℕ) (text : List ℕ) (wanted : ℕ) → IsWritten text wanted old mid told status → IsWritten text wanted old new told status
written_out old mid new kept true status text wanted (is, grew) = (is, appends_kept old mid new text kept grew)
written_out old mid new kept false status text wanted is = is

-- a command whose answer was written so, or lost, if the same is known of each text
module _ {S : Type 0} (look : Held S → State) (old mid new : Option (List ℕ)) (told now : Bool) (said status : ℕ)
    (each : (text : List ℕ) (wanted : ℕ) → IsWritten text wanted old mid told said → IsWritten text wanted old new now status) where
  rows : (read : Result ScheduleValue Fault) (listing : Listing) → AreRowsTold read listing old mid told said → AreRowsTold read listing old new now status
  rows (Ok a) listing is = each _ _ is
  rows (Err fault) listing is = each _ _ is

  reasons : (read : Result ScheduleValue Fault) (q : Question) → AreReasonsTold read q old mid told said → AreReasonsTold read q old new now status
  reasons (Ok a) q (inl (found, are, is)) = inl (found, are, each _ _ is)
  reasons (Ok a) q (inr (fault, why, is)) = inr (fault, why, each _ _ is)
  reasons (Err fault) q is = each _ _ is

  pub done_out : (c : Command) (before after : Held S) → IsDone look before c old mid after told said → IsDone look before c old new after now status
  done_out (says.Step e) before after (inl (came, a, stepped, is)) = inl (came, a, stepped, each _ _ is)
  done_out (says.Step e) before after (inr (fault, unopened, is)) = inr (fault, unopened, each _ _ is)
  done_out (says.List listing) before after (read, looked, is) = (read, looked, rows read listing is)
  done_out (says.Explain q) before after (read, looked, is) = (read, looked, reasons read q is)
  done_out (says.Run options) before after (same, is) = (same, each _ _ is)
  done_out (says.Take how source) before after (same, is) = (same, each _ _ is)
  done_out (says.Tick time) before after (same, is) = (same, each _ _ is)
  done_out says.Drain before after (same, is) = (same, each _ _ is)
