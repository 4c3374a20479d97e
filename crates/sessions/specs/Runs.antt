-- What a history does to a session.
-- restates: this project's own profile
use Rattle.std.specs.Prelude.{◌≡◌, ◌<◌, ◌+◌, ◌-◌, ◌^◌, ◌||◌, ℕ, suc, zero, min, Bool, List, [], ◌∷◌, ◌++◌, map, Result, Ok, Err, OnOk}
use Rattle.sqlite.specs.Held.{Held}
use Rattle.sqlite.specs.State.{State}
use Rattle.ruled_dispatch.specs.declared.items.JobOrStop.{JobOrStop}
use Rattle.ruled_dispatch.specs.declared.items.JobOrStop.TheVariants as item
use Rattle.ruled_dispatch.specs.declared.items.WorkerReport.{WorkerReport}
use Rattle.sched_events.specs.Steps.{steps, handed_along}
use Rattle.sched_events.specs.declared.answers.Answer.{Answer}
use Rattle.sched_events.specs.declared.events.Event.{Event}
use Rattle.sched_model.specs.Schedule.{Schedule}
use Rattle.sched_state.specs.declared.jobs.Job.{Job}
pub use Rattle.director.specs.Directors.{DirectorValue, Follows, ScheduleValue}
use Rattle.director.specs.Leaves.{accepted_in, Leaves}
use Rattle.director.specs.Lists.{IsOutcome}
use Rattle.director.specs.declared.faults.Fault.{Fault}
use Rattle.sessions.specs.History.{accepted, any_missed, heard_in, nones_in, tried_at_end, tried_part, tries_in, waits_in, AreRight, CameTo, Step}
use Rattle.sessions.specs.Executors.{ExecutorValue, has_heard, IsSameExecutor, has_sent}
use Rattle.sessions.specs.declared.state.Session.{Session}
use Rattle.sessions.specs.declared.steppers.Stepper.{Stepper}

-- a count after so many more: one that would pass the greatest number stays there
abbrev pub more : ℕ → ℕ → ℕ
more zero n = n
more (suc k) n = min (n + suc k) (2 ^ 64 - 1)

-- the schedule of a session
abbrev pub now_of : {S : Type 0} → Session S → Schedule
now_of s = s.stepper.director.schedule.content

abbrev pub as_sent : List Job → List JobOrStop
as_sent jobs = map (λ (j : Job). item.Job j) jobs

-- these jobs were sent and these reports heard; so often none was there, and so often one was waited for; it is the same executor
pub record Works (jobs : List JobOrStop) (reports : List WorkerReport) (polls sleeps : ℕ) (old new : ExecutorValue) : Type 0 where
  pub sent : has_sent new ≡ has_sent old ++ jobs
  pub heard : has_heard new ≡ has_heard old ++ reports
  pub nones : new.nones ≡ more polls old.nones
  pub waits : new.waits ≡ more sleeps old.waits
  pub same : IsSameExecutor old new

-- the event was tried once more than so often in vain: it is answered or refused, as the director does, and where it is answered, the minutes have room for it
pub record IsTried {S : Type 0} (look : Held S → State) (e : Event) (vain : ℕ) (old : Stepper S) (came : Result Answer Fault) (new : Stepper S) : Type 0 where
  pub outcome : IsOutcome old.director.schedule.content e came new.director.schedule.content
  pub room : OnOk came (0 < new.minutes.room)
  pub minutes : new.minutes.items ≡ old.minutes.items
  pub keep : new.minutes.keep ≡ old.minutes.keep
  pub tries : new.tries ≡ more (suc vain) old.tries
  pub opened : new.director.opened ≡ old.director.opened
  pub followed : Follows old.director.schedule.content (look old.director.store) new.director.schedule.content (look new.director.store)
  pub left : Leaves (accepted_in e came) (tried_part e vain came) old.director.schedule.content (look old.director.store) (look new.director.store)

abbrev pub jobs_of : Result Answer Fault → List Job
jobs_of (Ok answer) = answer.jobs
jobs_of (Err fault) = []

-- an event that was stepped is put into the minutes, and the jobs of its answer are sent; nothing else has changed
pub record IsPut {S : Type 0} (e : Event) (came : Result Answer Fault) (old new : Session S) : Type 0 where
  pub minutes : new.stepper.minutes.items ≡ old.stepper.minutes.items ++ accepted_in e came
  pub keep : new.stepper.minutes.keep ≡ old.stepper.minutes.keep
  pub director : new.stepper.director ≡ old.stepper.director
  pub tries : new.stepper.tries ≡ old.stepper.tries
  pub works : Works (as_sent (jobs_of came)) [] 0 0 old.executor new.executor
  pub missed : new.missed ≡ old.missed

-- an event was tried once more than so often in vain, and where it was answered, put into the minutes, and its jobs sent; it counts as missed, or not
pub record IsDone {S : Type 0} (look : Held S → State) (e : Event) (vain : ℕ) (result : Result Answer Fault) (lost : Bool) (old new : Session S) : Type 0 where
  pub came : CameTo (now_of old) e result
  pub stepped : now_of new ≡ steps (accepted_in e result) (now_of old)
  pub minutes : new.stepper.minutes.items ≡ old.stepper.minutes.items ++ accepted_in e result
  pub keep : new.stepper.minutes.keep ≡ old.stepper.minutes.keep
  pub tries : new.stepper.tries ≡ more (suc vain) old.stepper.tries
  pub works : Works (as_sent (handed_along (accepted_in e result) (now_of old))) [] 0 0 old.executor new.executor
  pub missed : new.missed ≡ (old.missed || lost)
  pub opened : new.stepper.director.opened ≡ old.stepper.director.opened
  pub followed : Follows (now_of old) (look old.stepper.director.store) (now_of new) (look new.stepper.director.store)
  pub left : Leaves (accepted_in e result) (tried_part e vain result) (now_of old) (look old.stepper.director.store) (look new.stepper.director.store)

-- Just these steps took place between the two states of a session: each is right at the schedule that it comes to. The schedule, the minutes, how often an event
-- was tried, what was sent, heard and asked of the workers, and whether a report was missed are what they say. The record follows the schedule; and whatever
-- shut it, the files may hold the schedule after the accepted events, or after one more that was tried behind them.
pub record Goes {S : Type 0} (look : Held S → State) (h : List Step) (old new : Session S) : Type 0 where
  pub right : AreRight h (now_of old)
  pub stepped : now_of new ≡ steps (accepted h) (now_of old)
  pub minutes : new.stepper.minutes.items ≡ old.stepper.minutes.items ++ accepted h
  pub keep : new.stepper.minutes.keep ≡ old.stepper.minutes.keep
  pub tries : new.stepper.tries ≡ more (tries_in h) old.stepper.tries
  pub works : Works (as_sent (handed_along (accepted h) (now_of old))) (heard_in h) (nones_in h) (waits_in h) old.executor new.executor
  pub missed : new.missed ≡ (old.missed || any_missed h)
  pub opened : new.stepper.director.opened ≡ old.stepper.director.opened
  pub followed : Follows (now_of old) (look old.stepper.director.store) (now_of new) (look new.stepper.director.store)
  pub left : Leaves (accepted h) (tried_at_end h) (now_of old) (look old.stepper.director.store) (look new.stepper.director.store)

-- some steps of which this holds took place
abbrev pub GoesBy : {S : Type 0} → (Held S → State) → (List Step → Type 0) → Session S → Session S → Type 0
GoesBy look P old new = (h : List Step) × P h × Goes look h old new
