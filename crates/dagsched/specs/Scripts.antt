-- What the program does with a script on a record, by the options of `run`.
-- restates: this project's own profile
use Rattle.std.specs.Prelude.{◌≡◌, ◌⊎◌, ℕ, List, Option, None}
use Rattle.std.specs.Io.KnownBytes.{Appends}
use Rattle.sqlite.specs.Held.{Held}
use Rattle.sqlite.specs.State.{State}
use Rattle.operators.specs.declared.operators.Operator as operator
use Rattle.command_words.specs.declared.commands.ScriptOptions.{ScriptOptions}
use Rattle.command_runner.specs.Events.{IsUnopened}
use Rattle.director.specs.declared.faults.Fault.{Fault}
use Rattle.script_reader.specs.Done.{FileAnswer}
use Rattle.script_reader.specs.Statuses.{failure_status}
use Rattle.script_runner.specs.Teams.{IsRunByTeam}

-- the status is this one, or 4 for an error of the system before all was printed
abbrev pub UnlessFailed : ℕ → ℕ → Type 0
UnlessFailed said status = (status ≡ said) ⊎ (status ≡ 4)

-- the record was not opened, and the status is that of the cause
abbrev pub IsNotOpened : {S : Type 0} → (Held S → State) → Held S → Held S → ℕ → Type 0
IsNotOpened look before after status = (fault : Fault) × IsUnopened look (look before) fault after × UnlessFailed (failure_status fault) status

-- A script was run on a record with the workers and the lanes that the options name, its streams and sources being what their contracts know of them, up to
-- these sources (later) and this output (written); or the record was not opened, and both are as they were.
abbrev pub IsScriptOf : {S O F W : Type 0} → (Held S → State) → operator.Ghosts O → Option (List ℕ) → (F → List FileAnswer → F → Type 0) → (W → Option (List ℕ)) → ScriptOptions → F → W → Held S → Held S → ℕ → F → W → Type 0
IsScriptOf look o bytes gives contents options sources output before after status later written =
    IsRunByTeam look o bytes (λ given. gives sources given later) (λ _. Unit {0}) (λ shown. Appends (contents output) (contents written) shown) (later ≡ sources) options.workers options.lanes (look before) after status
    ⊎ (IsNotOpened look before after status × (later ≡ sources) × (written ≡ output))

-- Nothing was run, since another program has its tries in the folder: the record stays.
abbrev pub IsHeldBack : {S : Type 0} → Held S → Held S → ℕ → Type 0
IsHeldBack before after status = (after ≡ before) × (status ≡ 4)

-- a script was run, where nothing is known of streams, sources and clock, as of the system's; or the record was not opened
abbrev pub IsScriptRun : {S O : Type 0} → (Held S → State) → operator.Ghosts O → ScriptOptions → Held S → Held S → ℕ → Type 0
IsScriptRun look o options before after status =
    IsRunByTeam look o None (λ _. Unit {0}) (λ _. Unit {0}) (λ _. Unit {0}) (Unit {0}) options.workers options.lanes (look before) after status
    ⊎ IsNotOpened look before after status

-- the same, or nothing was run
abbrev pub IsScriptDone : {S O : Type 0} → (Held S → State) → operator.Ghosts O → ScriptOptions → Held S → Held S → ℕ → Type 0
IsScriptDone look o options before after status = IsScriptRun look o options before after status ⊎ IsHeldBack before after status
