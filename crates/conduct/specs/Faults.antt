-- Why a run ends before its lines are over, or not well, and what the lines failed in then.
use Rattle.std.specs.Prelude.{◌≡◌, Bool, true, false, not, Option, None, Result, Ok, Err}
use Rattle.sessions.specs.Faults.{EndsBy}
use Rattle.sessions.specs.declared.faults.ConductFault.{ConductFault}
use Rattle.sessions.specs.declared.faults.ConductFault.TheVariants as fault
use Rattle.sessions.specs.declared.line_reading.LineFault.{LineFault}

-- it ends what the threads do: a thread was refused before an event was stepped, or it ends a session
-- restates: this project's own profile
abbrev pub EndsInside : ConductFault → Option LineFault → Type 0
EndsInside fault.SpawnRefused failed = failed ≡ None
EndsInside f failed = EndsBy f failed

-- it ends a run: there was no worker, the logs are not what was handed out, or it ends what the threads do
-- restates: this project's own profile
abbrev pub EndsRun : ConductFault → Option LineFault → Type 0
EndsRun fault.NoWorker failed = failed ≡ None
EndsRun fault.Unequal failed = failed ≡ None
EndsRun f failed = EndsInside f failed

-- no event was stepped
abbrev pub is_unstarted : ConductFault → Bool
is_unstarted fault.NoWorker = true
is_unstarted fault.SpawnRefused = true
is_unstarted _ = false

-- no thread was refused, where one was needed
abbrev pub all_started : {A : Type 0} → Result A ConductFault → Bool
all_started (Ok ends) = true
all_started (Err f) = not (is_unstarted f)

abbrev pub is_no_worker : ConductFault → Bool
is_no_worker fault.NoWorker = true
is_no_worker _ = false

-- the lines were followed until they were over, and then the logs were looked at
abbrev pub came_to_its_end : {A : Type 0} → Result A ConductFault → Bool
came_to_its_end (Ok ends) = true
came_to_its_end (Err fault.Unequal) = true
came_to_its_end (Err _) = false
