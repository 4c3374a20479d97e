-- What the program does with a command on a record.
-- restates: this project's own profile
use Rattle.std.specs.Prelude.{ℕ, Bool, true, false, List, Option, None}
use Rattle.sqlite.specs.Held.{Held}
use Rattle.sqlite.specs.State.{State}
use Rattle.operators.specs.declared.operators.Operator as operator
use Rattle.command_words.specs.declared.commands.Command.{Command}
use Rattle.command_words.specs.declared.commands.Command.TheVariants as says
use Rattle.command_runner.specs.Commands.{IsDone}
use Rattle.dagsched.specs.Scripts.{IsScriptDone}

-- A command outside of scripts was done, and the bytes of the output became these: its answer is written out, and the status is its own; or it is not, and the
-- status is 4.
abbrev pub IsAnsweredOn : {S : Type 0} → (Held S → State) → Command → Option (List ℕ) → Option (List ℕ) → Held S → Held S → ℕ → Type 0
IsAnsweredOn look c old new before after status = (told : Bool) × IsDone look before c old new after told status

-- the same, where nothing is known of the output, as of the system's
abbrev pub IsSingleDone : {S : Type 0} → (Held S → State) → Command → Held S → Held S → ℕ → Type 0
IsSingleDone look c before after status = (old : Option (List ℕ)) × (new : Option (List ℕ)) × IsAnsweredOn look c old new before after status

-- a command on a record: `run` runs a script
abbrev pub IsCommandDone : {S O : Type 0} → (Held S → State) → operator.Ghosts O → Command → Held S → Held S → ℕ → Type 0
IsCommandDone look o (says.Run options) before after status = IsScriptDone look o options before after status
IsCommandDone look o c before after status = IsSingleDone look c before after status

-- the command has its place in scripts alone
abbrev pub is_of_scripts : Command → Bool
is_of_scripts (says.Take taking source) = true
is_of_scripts (says.Tick time) = true
is_of_scripts says.Drain = true
is_of_scripts _ = false

-- the folder of the logs that a command names
abbrev pub logs_of : Command → Option (List ℕ)
logs_of (says.Run options) = options.logs
logs_of _ = None
