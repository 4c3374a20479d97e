-- What is put where the answers go.
use Rattle.std.specs.Prelude.{◌≡◌, ◌&&◌, ℕ, max, List, Option, Result, is_ok, OnOk}
use Rattle.std.specs.Io.KnownBytes.{Appends}
use Rattle.script_reader.specs.declared.answers.Answers.{Answers}

-- This text was put, with this status, and was written or not: the greatest status so far counts it; all that was put so far is written if that was so before and
-- this is; and where this is, the output has grown by it.
-- restates: this project's own profile
pub record IsPut {W P T E : Type 0} (contents : W → Option (List ℕ)) (text : List ℕ) (status : ℕ) (put : Result T E) (old new : Answers W P) : Type 0 where
  pub status_is : new.status ≡ max old.status status
  pub written_is : new.is_written ≡ (old.is_written && is_ok put)
  pub shown : OnOk put (Appends (contents old.output) (contents new.output) text)
