-- What a run does, step by step: its history. It is there for contracts alone, and nothing keeps it.
-- restates: this project's own profile
use Rattle.std.specs.Prelude.{◌≡◌, ◌≤◌, ◌+◌, ℕ, suc, Bool, true, false, List, [], ◌∷◌, ◌++◌, length, flat_map, replicate, sum_by, All, None, Result, Ok, Err, IfErr}
use Rattle.std.specs.List.{list_any}
use Rattle.ruled_dispatch.specs.declared.items.Report.{Report as WorkReport}
use Rattle.ruled_dispatch.specs.declared.items.WorkerReport.{WorkerReport}
use Rattle.sched_events.specs.Causes.{refused}
use Rattle.sched_events.specs.Events.{IsInRange}
use Rattle.sched_events.specs.Steps.{answer_to, steps}
use Rattle.sched_events.specs.declared.answers.Answer.{Answer}
use Rattle.sched_events.specs.declared.events.Event.{Event}
use Rattle.sched_events.specs.declared.events.Event.TheVariants.{Report, Restart}
use Rattle.sched_model.specs.Schedule.{Schedule}
use Rattle.director.specs.Faults.{IsFaultOf, IsFaultOfStore}
use Rattle.director.specs.Leaves.{accepted_in, tried_behind, tried_in}
use Rattle.director.specs.declared.faults.Fault.{Fault}
use Rattle.minutes.specs.Minutes.{is_of_line}
use Rattle.sessions.specs.Readings.{Reading}

-- a step of a run
pub data Step : Type 0 where
  -- a restart with so many lanes was tried: what stood against the tries before the last, and what came of that
  Restarted : ℕ → List Fault → Result Answer Fault → Step
  -- an event of a line was tried once, and the lines were told what came of it
  Told : Event → Result Answer Fault → Step
  -- a report was heard, which was waited for or not, and tried
  Reported : Bool → WorkerReport → List Fault → Result Answer Fault → Step
  -- a report was asked for, and none was there
  NoneThere : Step
  -- the lines looked at a schedule
  Looked : Schedule → Step
  -- the clock was asked at a schedule, and gave this
  Asked : Schedule → Reading → Step

-- ---- what was accepted
abbrev pub report_of : WorkerReport → Event
report_of t = Report t.report.serial t.report.stage

abbrev pub events_in : Step → List Event
events_in (Restarted lanes faults came) = accepted_in (Restart lanes) came
events_in (Told e came) = accepted_in e came
events_in (Reported waited t faults came) = accepted_in (report_of t) came
events_in NoneThere = []
events_in (Looked b) = []
events_in (Asked b reading) = []

-- the events that were accepted, in their order
abbrev pub accepted : List Step → List Event
accepted h = flat_map events_in h

-- ---- what else a history says
-- an event with its answer, where it was accepted
abbrev pub told_part : Event → Result Answer Fault → List (Event × Answer)
told_part e (Ok answer) = (e, answer) ∷ []
told_part e (Err fault) = []

-- what the lines were told as accepted
abbrev pub told_by : Step → List (Event × Answer)
told_by (Told e came) = told_part e came
told_by _ = []

abbrev pub told_in : List Step → List (Event × Answer)
told_in h = flat_map told_by h

-- the reports that were heard
abbrev pub heard_by : Step → List WorkerReport
heard_by (Reported waited t faults came) = t ∷ []
heard_by _ = []

abbrev pub heard_in : List Step → List WorkerReport
heard_in h = flat_map heard_by h

-- what the clock gave, and at which schedule
abbrev pub readings_by : Step → List (Schedule × Reading)
readings_by (Asked b reading) = (b, reading) ∷ []
readings_by _ = []

abbrev pub readings_in : List Step → List (Schedule × Reading)
readings_in h = flat_map readings_by h

-- a report was heard and is not among the accepted events
abbrev pub is_lost : Result Answer Fault → Bool
is_lost (Ok answer) = false
is_lost (Err fault) = true

abbrev pub is_missed : Step → Bool
is_missed (Reported waited t faults came) = is_lost came
is_missed _ = false

abbrev pub any_missed : List Step → Bool
any_missed h = list_any is_missed h

-- the reports that were missed
abbrev pub missed_part : WorkerReport → Result Answer Fault → List WorkReport
missed_part t (Ok answer) = []
missed_part t (Err fault) = t.report ∷ []

abbrev pub missed_by : Step → List WorkReport
missed_by (Reported waited t faults came) = missed_part t came
missed_by _ = []

abbrev pub missed_in : List Step → List WorkReport
missed_in h = flat_map missed_by h

-- how often an event was tried, a report was asked for and not there, and one was waited for
abbrev pub tries_by : Step → ℕ
tries_by (Restarted lanes faults came) = suc (length faults)
tries_by (Told e came) = 1
tries_by (Reported waited t faults came) = suc (length faults)
tries_by _ = 0

abbrev pub nones_by : Step → ℕ
nones_by NoneThere = 1
nones_by _ = 0

abbrev pub waits_by : Step → ℕ
waits_by (Reported true t faults came) = 1
waits_by _ = 0

abbrev pub tries_in : List Step → ℕ
tries_in h = sum_by tries_by h

abbrev pub nones_in : List Step → ℕ
nones_in h = sum_by nones_by h

abbrev pub waits_in : List Step → ℕ
waits_in h = sum_by waits_by h

-- ---- what was tried and not accepted
-- the events of the tries of one event that the store or want of memory stood against, once so many tries before the last were in vain: none, if it came to an
-- answer
abbrev pub tried_part : Event → ℕ → Result Answer Fault → List Event
tried_part e vain came = tried_behind (accepted_in e came) (replicate vain e) (tried_in e came)

abbrev pub tried_by : Step → List Event
tried_by (Restarted lanes faults came) = tried_part (Restart lanes) (length faults) came
tried_by (Told e came) = tried_part e 0 came
tried_by (Reported waited t faults came) = tried_part (report_of t) (length faults) came
tried_by _ = []

-- behind the last event that was accepted, those that the store or want of memory stood against
abbrev pub tried_at_end : List Step → List Event
tried_at_end [] = []
tried_at_end (x ∷ xs) = tried_behind (accepted xs) (tried_by x) (tried_at_end xs)

-- ---- kinds of steps
abbrev pub is_restarted : Step → Bool
is_restarted (Restarted lanes faults came) = true
is_restarted _ = false

abbrev pub is_reported : Step → Bool
is_reported (Reported waited t faults came) = true
is_reported _ = false

abbrev pub is_polled : Step → Bool
is_polled (Reported false t faults came) = true
is_polled _ = false

abbrev pub AreReported : List Step → Type 0
AreReported h = All (λ x. is_reported x ≡ true) h

-- the reports that are there are heard: until none is
abbrev pub ArePolled : List Step → Type 0
ArePolled h = (before : List Step) × All (λ x. is_polled x ≡ true) before × (h ≡ before ++ NoneThere ∷ [])

-- so many looks at a schedule
abbrev pub looks : ℕ → Schedule → List Step
looks times b = replicate times (Looked b)

-- ---- when it is right
-- what came of an event that was tried at this schedule
abbrev pub CameTo : Schedule → Event → Result Answer Fault → Type 0
CameTo a e (Ok answer) = IsInRange e × (refused a e ≡ None) × (answer ≡ answer_to e a)
CameTo a e (Err fault) = IsFaultOf a e fault

-- an event of the run's own is tried again where the store or want of memory stood against it, three times in all
abbrev pub AreTries : List Fault → Result Answer Fault → Type 0
AreTries faults came = All IsFaultOfStore faults × (length faults ≤ 2) × IfErr came (λ fault. IsFaultOfStore fault → length faults ≡ 2)

abbrev pub IsRight : Step → Schedule → Type 0
IsRight (Restarted lanes faults came) a = CameTo a (Restart lanes) came × AreTries faults came
IsRight (Told e came) a = (is_of_line e ≡ true) × CameTo a e came
IsRight (Reported waited t faults came) a = CameTo a (report_of t) came × AreTries faults came
IsRight NoneThere a = Unit {0}
IsRight (Looked b) a = b ≡ a
IsRight (Asked b reading) a = b ≡ a

-- each step is right at the schedule that it comes to
abbrev pub AreRight : List Step → Schedule → Type 0
AreRight [] a = Unit {0}
AreRight (x ∷ xs) a = IsRight x a × AreRight xs (steps (events_in x) a)
