-- What is left of a session that was served while the workers ran.
use Rattle.std.specs.Prelude.{◌≡◌, ◌⊎◌, ℕ, ◌<◌, ◌≤◌, Bool, true, false, List, [], ◌∷◌, ◌++◌, All, length, map, take, replicate, is_ok, Option, None, Result, MatchResult, OnErr, OnOk, IfErr, vec_capacity}
use Rattle.sqlite.specs.Held.{Held}
use Rattle.sqlite.specs.State.{State}
use Rattle.ruled_dispatch.specs.Lanes.{sent_of, heard_of, IsDirectorOf, IsWorkerOf, HasWorkers}
use Rattle.ruled_dispatch.specs.declared.items.JobOrStop.TheVariants as item
use Rattle.ruled_dispatch.specs.declared.lanes.Lanes.{Lanes}
use Rattle.ruled_dispatch.specs.declared.passes.DirectorPass.{DirectorPass}
use Rattle.ruled_dispatch.specs.declared.passes.WorkerPass.{WorkerPass}
use Rattle.sched_events.specs.Steps.{steps, handed_along}
use Rattle.sched_events.specs.declared.answers.Answer.{Answer}
use Rattle.sched_model.specs.Schedule.{Schedule}
use Rattle.sched_model.specs.States.{in_flight}
use Rattle.sessions.specs.director.Leaves.{Leaves}
use Rattle.sessions.specs.Faults.{EndsBy, Fault}
use Rattle.sessions.specs.History.{accepted, any_missed, heard_in, is_restarted, tried_at_end, AreReported, AreRight, Restarted, Step}
use Rattle.sessions.specs.Readings.{Reading}
use Rattle.sessions.specs.Runs.{now_of, DirectorValue, Follows}
use Rattle.sessions.specs.Told.{IsServed as Serves}
use Rattle.sessions.specs.declared.faults.ConductFault.{ConductFault}
use Rattle.sessions.specs.declared.line_reading.Line.{Line}
use Rattle.sessions.specs.declared.line_reading.LineFault.{LineFault}
use Rattle.sessions.specs.declared.state.Parted.{Parted}
use Rattle.sessions.specs.declared.state.Session.{Session}
use Rattle.graph_file.specs.declared.operators.Operator.{Operator as Kind}
use Rattle.slot_desk.specs.declared.holds.Hold.{Hold}
use Rattle.operators.specs.Kits.{IsKit}
use Rattle.workers.specs.declared.crews.Crew.{Crew}
use Rattle.workers.specs.declared.crews.WorkerEnd.{WorkerEnd}
use Rattle.workers.specs.Shows.{Shows}
use Rattle.workers.specs.Threads.{HaveWorked}
use Rattle.conduct.specs.declared.equipment.Workers.{Workers}
use Rattle.conduct.specs.Faults.{EndsInside, all_started, is_unstarted}

-- no step took place
abbrev pub IsUnbegun : List Step → List Step → List Step → Type 0
IsUnbegun h told last = (h ≡ []) × (told ≡ []) × (last ≡ [])

-- the restart, with so many lanes, took place first, and without it nothing more
abbrev pub IsBegun : ℕ → List Step → List Step → List Step → Type 0
IsBegun lane_count h told last =
    (faults : List Fault) × (restart : Result Answer Fault) × (h ≡ Restarted lane_count faults restart ∷ (told ++ last)) × OnErr restart (told ++ last ≡ [])

-- What a run did, step by step, and which steps of it the lines were told; behind those are these last ones, of which they were not: reports. The restart is the
-- first step, if there is one, and no other is a restart.
-- restates: this project's own profile
pub record IsHistory (lane_count : ℕ) (h told last : List Step) : Type 0 where
  pub first : IsUnbegun h told last ⊎ IsBegun lane_count h told last
  pub once : All (λ x. is_restarted x ≡ false) told
  pub behind : AreReported last

-- From a director, by these steps, and then so many stops: each step is right at the schedule that it comes to; the schedule and the minutes are those of the
-- accepted events, of which the tries were sent; what was heard, and whether a report was missed, are the history's. The record follows the schedule; and
-- whatever shut it, the files may hold the schedule after the accepted events, or after one more that was tried behind them.
pub record IsStopped {S : Type 0} (look : Held S → State) (stops : ℕ) (h : List Step) (old : DirectorValue S) (s : Parted S) : Type 0 where
  pub right : AreRight h old.schedule.content
  pub minutes : s.minutes.items ≡ accepted h
  pub stepped : s.director.schedule.content ≡ steps (accepted h) old.schedule.content
  pub sent : sent_of s.pass ≡ map (λ j. item.Job j) (handed_along (accepted h) old.schedule.content) ++ replicate stops item.Stop
  pub heard : heard_of s.pass ≡ heard_in h
  pub missed : s.missed ≡ any_missed h
  pub opened : s.director.opened ≡ old.opened
  pub followed : Follows old.schedule.content (look old.store) s.director.schedule.content (look s.director.store)
  pub left : Leaves (accepted h) (tried_at_end h) old.schedule.content (look old.store) (look s.director.store)

-- a session was served with so many lanes: what it did, and how it ended
pub record IsFollowed {S L C W : Type 0} (look : Held S → State) (lane_count : ℕ) (tell : L → List Step → Option Line → L → Type 0) (give : C → List (Schedule × Reading) → C → Type 0)
    (old new : Session S) (l later : L) (c then : C) (failed : Option LineFault) (is_over : Bool) (outcome : Result W ConductFault) : Type 0 where
  pub served : Serves look lane_count tell give old new l later c then (λ restart waits. OnOk outcome ((is_ok restart ≡ true) × (waits ≡ None)))
  pub fault : MatchResult outcome (λ _. failed ≡ None) (λ f. EndsBy f failed)
  pub over : OnOk outcome (is_over ≡ true)
  pub idle : OnOk outcome (in_flight (now_of new) ≡ 0)

-- A session of this director was served with so many lanes, and then so many stops were sent: what is left of it, and how it ended. Of the lines and the clock:
-- how they came from their first states to their last ones while the lines were told these steps, and which line waits then (are_told), or that they are as they
-- were (untouched); what the lines failed in, and whether they are over.
pub record IsServed {S W : Type 0} (look : Held S → State) (lanes : Lanes) (lane_count stops : ℕ) (old : DirectorValue S) (before : DirectorPass) (new : Parted S) (outcome : Result W ConductFault) (are_told : List Step → Option Line → Type 0) (untouched : Type 0) (failed : Option LineFault) (is_over : Bool) : Type 0 where
  pub pass : IsDirectorOf lanes new.pass
  pub workers : (count : ℕ) → HasWorkers before count → HasWorkers new.pass count
  pub history : List Step
  pub steps_told : List Step
  pub last : List Step
  pub waits : Option Line
  pub parts : IsHistory lane_count history steps_told last
  pub run : IsStopped look stops history old new
  pub told : are_told steps_told waits
  pub none : OnOk outcome (waits ≡ None)
  pub fault : MatchResult outcome (λ _. failed ≡ None) (λ f. EndsInside f failed)
  pub over : OnOk outcome (is_over ≡ true)
  pub begun : OnOk outcome (0 < length (accepted history))
  pub idle : OnOk outcome (in_flight new.director.schedule.content ≡ 0)
  pub unstarted : IfErr outcome (λ f. is_unstarted f ≡ true → (history ≡ []) × untouched)

-- A run may start: the pass is the director's, and nothing was sent or heard by it; the lines did not fail; and there is a pass, a share and room for a thread for each
-- crew, whose kits are whole.
pub record IsReady {S D G O : Type 0} (kind_of : O → Kind) (lanes : Lanes) (lane_count : ℕ) (director : DirectorValue S) (pass : DirectorPass) (workers : Workers D G O) (crews : List (Crew G O)) (failed : Option LineFault) : Type 0 where
  pub first : IsDirectorOf lanes pass
  pub unused : (sent_of pass ≡ []) × (heard_of pass ≡ [])
  pub within : lane_count ≤ director.schedule.content.limits.lanes
  pub sound : failed ≡ None
  pub passes : All (IsWorkerOf lanes) workers.passes.items
  pub kits : All (λ c. IsKit kind_of c.kit) crews
  pub pass_each : length workers.passes.items ≡ length crews
  pub share_each : length workers.shares.items ≡ length crews
  pub none : workers.handles.items ≡ []
  pub room : length crews ≤ vec_capacity workers.handles

-- What came of the threads: a session was served, each worker that was started worked from what it was given, and these are all unless a thread was
-- refused.
pub record IsManaged {S D G O W : Type 0} (look : Held S → State) (shows : Shows O) (lanes : Lanes) (lane_count : ℕ)
    (old : DirectorValue S) (before : DirectorPass) (workers : Workers D G O) (crews : List (Crew G O)) (new : Parted S) (outcome : Result W ConductFault) (results : List (WorkerEnd G O × WorkerPass × List Hold))
    (are_told : List Step → Option Line → Type 0) (untouched : Type 0) (failed : Option LineFault) (is_over : Bool) : Type 0 where
  pub served : IsServed look lanes lane_count (length results) old before new outcome are_told untouched failed is_over
  pub worked : HaveWorked shows (take (length results) workers.passes.items) (take (length results) workers.shares.items) (take (length results) (map (λ c. c.kit) crews)) results
  pub all : all_started outcome ≡ true → length results ≡ length crews
