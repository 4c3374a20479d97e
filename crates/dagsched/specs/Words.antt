-- What the program does for words.
-- restates: this project's own profile
use Rattle.std.specs.Prelude.{◌≡◌, ◌⊎◌, ℕ, true, false, if◌then◌else◌, List, [], ◌∷◌, ◌++◌, Option, None, Some, Ok, Err, is_some, codes, bytes_eq}
use Rattle.std.specs.IoError.{error_kind}
use Rattle.std.specs.declared.io.Error.{Error}
use Rattle.std.specs.declared.io.ErrorKind.TheVariants as kind
use Rattle.sqlite_disk.specs.declared.Disk as disk
use Rattle.sqlite.specs.Recovery.{Image}
use Rattle.operators.specs.declared.operators.Operator as operator
use Rattle.command_words.specs.Lines.{asks_for_help, line_of}
use Rattle.command_words.specs.declared.commands.Command.{Command}
use Rattle.command_words.specs.declared.commands.CommandLine.{CommandLine}
use Rattle.command_words.specs.declared.commands.UsageFault.{UsageFault}
use Rattle.command_words.specs.declared.commands.UsageFault.TheVariants as usage
use Rattle.dagsched.specs.Commands.{is_of_scripts, logs_of}
use Rattle.dagsched.specs.Records.{IsDoneInFile, IsDoneInMemory}
use Rattle.dagsched.specs.Scripts.{UnlessFailed}

-- what the words after the program's name mean: `help COMMAND` is `COMMAND --help`
abbrev pub words_meant : List (List ℕ) → List (List ℕ)
words_meant [] = []
words_meant (first ∷ rest) = if bytes_eq first (codes "help") then rest ++ codes "--help" ∷ [] else first ∷ rest

-- the status of words that are no command: 0 for those that ask for help, which they get, and else 2
abbrev pub IsToldOf : UsageFault → List (List ℕ) → ℕ → Type 0
IsToldOf usage.Words words status = UnlessFailed (if asks_for_help words then 0 else 2) status
IsToldOf fault words status = UnlessFailed 2 status

module _ {M F O : Type 0} (memory : disk.Ghosts M) (file : disk.Ghosts F) (image : Image) (o : operator.Ghosts O) where
  -- on the record in the file that a path names, or on one in memory, where there is no path
  abbrev pub IsDoneAt : Option (List ℕ) → Command → ℕ → Type 0
  IsDoneAt None c status = IsDoneInMemory memory o c status
  IsDoneAt (Some path) c status = IsDoneInFile file o image c status

  -- a command line was done; or its command has its place in scripts alone: 2; or the folder of the logs that it names cannot be had: 4
  abbrev pub IsLineDone : CommandLine → ℕ → Type 0
  IsLineDone line status =
      ((is_of_scripts line.command ≡ true) × UnlessFailed 2 status)
      ⊎ (((is_some (logs_of line.command) ≡ true) × (status ≡ 4)) ⊎ ((is_of_scripts line.command ≡ false) × IsDoneAt line.record_path line.command status))

  -- words were done: the command line that they say, or the fault that they have; or memory ran out before they were read: 4
  abbrev pub AreWordsDone : List (List ℕ) → ℕ → Type 0
  AreWordsDone words status =
      ((line : CommandLine) × (line_of words ≡ Ok line) × IsLineDone line status)
      ⊎ (((fault : UsageFault) × (line_of words ≡ Err fault) × IsToldOf fault words status) ⊎ (status ≡ 4))

-- the program ends so, if the system gave this error in place of its words: one of these is not UTF-8: 2; or 4
abbrev pub IsEndWithoutWords : Error → ℕ → Type 0
IsEndWithoutWords error status = ((error_kind error ≡ kind.InvalidData) × UnlessFailed 2 status) ⊎ (status ≡ 4)
