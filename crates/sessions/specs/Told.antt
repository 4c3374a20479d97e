-- What passed between a run, its lines and its clock.
use Rattle.std.specs.Prelude.{◌≡◌, ℕ, Bool, true, false, List, [], ◌∷◌, ◌++◌, All, Option, Some, None, Result, MatchResult, OnErr, OnOk}
use Rattle.sqlite.specs.Held.{Held}
use Rattle.sqlite.specs.State.{State}
use Rattle.ruled_dispatch.specs.declared.items.WorkerReport.{WorkerReport}
use Rattle.sched_events.specs.declared.answers.Answer.{Answer}
use Rattle.sched_events.specs.declared.events.Event.{Event}
use Rattle.sched_model.specs.Schedule.{Schedule}
use Rattle.director.specs.declared.faults.Fault.{Fault}
use Rattle.sessions.specs.History.{is_restarted, readings_in, AreReported, NoneThere, Reported, Restarted, Step, Told}
use Rattle.sessions.specs.Lines.{Takes, Tells}
use Rattle.sessions.specs.Readings.{Reading}
use Rattle.sessions.specs.Runs.{Goes}
use Rattle.sessions.specs.declared.line_reading.Line.{Line}
use Rattle.sessions.specs.declared.state.Session.{Session}

-- from one state of a clock to another it gave these more
abbrev pub Gives : {C : Type 0} → (C → List (Schedule × Reading) → C → Type 0) → List (Schedule × Reading) → C → C → Type 0
Gives {C} gives readings c then = (k : C) (given : List (Schedule × Reading)) → gives k given c → gives k (given ++ readings) then

-- the one step is a report that was heard, waited for or not
abbrev pub IsReport : Bool → List Step → Type 0
IsReport waited h = (t : WorkerReport) × (faults : List Fault) × (came : Result Answer Fault) × (h ≡ Reported waited t faults came ∷ [])

-- a report was asked for, and was there or not
abbrev pub IsPoll : Bool → List Step → Type 0
IsPoll true h = IsReport false h
IsPoll false h = h ≡ NoneThere ∷ []

-- what the line that takes the event was told of it
abbrev pub IsAnswered : {L : Type 0} → (L → List Step → Option Line → L → Type 0) → Event → Result Answer Fault → L → L → Type 0
IsAnswered {L} tells e came l later =
    (since : List Step) (line : Line) → Takes line e since → Tells tells (Some line) (since ++ Told e came ∷ []) None l later

-- nothing more took place than was told, and this line waits
abbrev pub Rests : Option Line → List Step → Option Line → Type 0
Rests waits last line = (last ≡ []) × (line ≡ waits)

-- Some steps took place, of which the lines were told, and then others, of which they were not: reports. No restart is among them. This line waited before, and
-- another waits in the end; the clock gave what was told that it gave.
pub record Serves {S L C : Type 0} (look : Held S → State) (tell : L → List Step → Option Line → L → Type 0) (give : C → List (Schedule × Reading) → C → Type 0)
    (waited : Option Line) (allowed : List Step → Option Line → Type 0) (old new : Session S) (l later : L) (c then : C) : Type 0 where
  pub told : List Step
  pub last : List Step
  pub waits : Option Line
  pub went : Goes look (told ++ last) old new
  pub once : All (λ x. is_restarted x ≡ false) told
  pub behind : AreReported last
  pub known : allowed last waits
  pub tells : Tells tell waited told waits l later
  pub gives : Gives give (readings_in told) c then

-- a whole run: the restart with so many lanes, and then, where it came to an answer, the lines
pub record IsServed {S L C : Type 0} (look : Held S → State) (lane_count : ℕ) (tell : L → List Step → Option Line → L → Type 0) (give : C → List (Schedule × Reading) → C → Type 0)
    (old new : Session S) (l later : L) (c then : C) (allowed : Result Answer Fault → Option Line → Type 0) : Type 0 where
  pub faults : List Fault
  pub restart : Result Answer Fault
  pub told : List Step
  pub last : List Step
  pub waits : Option Line
  pub went : Goes look (Restarted lane_count faults restart ∷ (told ++ last)) old new
  pub unbegun : OnErr restart (told ++ last ≡ [])
  pub once : All (λ x. is_restarted x ≡ false) told
  pub behind : AreReported last
  pub known : allowed restart waits
  pub tells : tell l told waits later
  pub gives : give c (readings_in told) then
