-- Teams: for each worker a list of operators, which become its kit.
use Rattle.std.specs.Prelude.{◌≡◌, ℕ, Bool, true, List, [], ◌∷◌, length, map, All, Option, Result}
use Rattle.graph_file.specs.declared.operators.Operator.{Operator as Kind}
use Rattle.sqlite.specs.Held.{Held}
use Rattle.sqlite.specs.State.{State}
use Rattle.operators.specs.Kits.{of_kind, each_once, IsKit}
use Rattle.operators.specs.declared.kits.Kit.{Kit}
use Rattle.operators.specs.declared.operators.Operator as operator
use Rattle.slot_desk.specs.declared.desk.Total.{Total}
use Rattle.workers.specs.declared.crews.OpenGate.{OpenGate}
use Rattle.workers.specs.declared.crews.WorkerEnd.{WorkerEnd}
use Rattle.workers.specs.Shows.{Shows, shows}
use Rattle.sched_events.specs.declared.events.Event.{Event}
use Rattle.sched_model.specs.Schedule.{Schedule}
use Rattle.conduct.specs.sessions.Readings.{Reading}
use Rattle.conduct.specs.sessions.declared.faults.ConductFault.{ConductFault}
use Rattle.script_reader.specs.Done.{FileAnswer}
use Rattle.script_runner.specs.Runs.{IsRun}
use Rattle.script_runner.specs.TaskOperators.{IsFresh}

module _ {O : Type 0} (kind_of : O → Kind) where
  -- the list has one operator of each kind
  abbrev pub IsWhole : List O → Type 0
  IsWhole operators = each_once (map kind_of operators) ≡ true

  -- the kit has these operators, each for its kind
  abbrev pub IsKitOf : List O → Kit O → Type 0
  IsKitOf operators kit = IsKit kind_of kit × All (λ o. of_kind kit (kind_of o) ≡ o) operators

  -- a kit for each list of operators, in their order
  abbrev pub AreKitsOf : List (List O) → List (Kit O) → Type 0
  AreKitsOf [] [] = Unit {0}
  AreKitsOf (operators ∷ rest) (kit ∷ kits) = IsKitOf operators kit × AreKitsOf rest kits
  AreKitsOf [] (kit ∷ kits) = ⊥
  AreKitsOf (operators ∷ rest) [] = ⊥

-- what `run_on` promises of a script that workers with these operators ran
-- restates: this project's own profile
pub record IsTeamRun {S G O : Type 0} (look : Held S → State) (shows : Shows O) (bytes : Option (List ℕ)) (sources : List FileAnswer → Type 0) (clock : List (Schedule × Reading) → Type 0) (output : List ℕ → Type 0) (untouched : Type 0) (lanes : ℕ) (operators : List (List O)) (before : State) (store : Held S) (minutes : List Event) (ends : List (WorkerEnd G O)) (outcome : Result Total ConductFault) (told : Bool) (status : ℕ) : Type 0 where
  pub kits : List (Kit O)
  pub made : AreKitsOf shows.kind_of operators kits
  pub run : IsRun look shows bytes sources clock output untouched lanes kits before store minutes ends outcome told status

-- A script was run with so many lanes by a team as `operators_for` makes it: so many workers, each with one operator of each kind, which had performed no try,
-- and with an open gate. The minutes, the ends of the workers, the outcome and whether all is told are some.
-- restates: this project's own profile
pub record IsRunByTeam {S O : Type 0} (look : Held S → State) (o : operator.Ghosts O) (bytes : Option (List ℕ)) (sources : List FileAnswer → Type 0) (clock : List (Schedule × Reading) → Type 0) (output : List ℕ → Type 0) (untouched : Type 0) (workers lanes : ℕ) (before : State) (store : Held S) (status : ℕ) : Type 0 where
  pub operators : List (List O)
  pub count : length operators ≡ workers
  pub whole : All (IsWhole o.kind_of) operators
  pub fresh : All (All (IsFresh o.runs_of o.refused_of o.taken)) operators
  pub minutes : List Event
  pub ends : List (WorkerEnd OpenGate O)
  pub outcome : Result Total ConductFault
  pub told : Bool
  pub run : IsTeamRun look (shows o.kind_of o.runs_of o.refused_of o.taken) bytes sources clock output untouched lanes operators before store minutes ends outcome told status
