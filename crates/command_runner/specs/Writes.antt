-- What was written, with which status.
use Rattle.std.specs.Prelude.{◌≡◌, ℕ, Bool, true, false, List, Option}
use Rattle.std.specs.Io.KnownBytes.{Appends}

-- this text is written (told), and the status is its own; or it is not, and the status is 4
abbrev pub IsWritten : List ℕ → ℕ → Option (List ℕ) → Option (List ℕ) → Bool → ℕ → Type 0
IsWritten text wanted old new true status = (status ≡ wanted) × Appends old new text
IsWritten text wanted old new false status = status ≡ 4
