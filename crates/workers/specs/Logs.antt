-- What a worker's log says: which jobs it took, what it told of them, and what its operators performed.
use Rattle.std.specs.Prelude.{Bool, List, [], ◌∷◌, map, flat_map, not, ◌&&◌, if◌then◌else◌}
use Rattle.graph_file.specs.declared.operators.Operator.{Operator as Kind}
use Rattle.instance_machine.specs.declared.tries.Outcome.{Outcome}
use Rattle.instance_machine.specs.declared.tries.Stage.TheVariants as stages
use Rattle.sched_state.specs.declared.jobs.Job.{Job}
use Rattle.ruled_dispatch.specs.declared.items.JobOrStop.{JobOrStop}
use Rattle.ruled_dispatch.specs.declared.items.JobOrStop.TheVariants as items
use Rattle.ruled_dispatch.specs.declared.items.Report.{Report}
use Rattle.slot_desk.specs.declared.holds.Hold.{Hold}
use Rattle.operators.specs.Kits.{same_kind}
use Rattle.workers.specs.declared.logs.Logged.{Logged}

-- the jobs, as they were sent
abbrev pub jobs_of : List Logged → List JobOrStop
jobs_of log = map (λ e. items.Job e.job) log

-- the report that a job has started
-- restates: this project's own profile
abbrev pub started : Job → Report
started job = record { serial = job.serial; stage = stages.Started }

-- the report that it has ended so
-- restates: this project's own profile
abbrev pub ended : Job → Outcome → Report
ended job outcome = record { serial = job.serial; stage = stages.Ended outcome }

-- what is told of a job: that it started, and how it ended
-- restates: this project's own profile
abbrev pub both_reports : Logged → List Report
both_reports e = started e.job ∷ ended e.job e.outcome ∷ []

-- what is told of all of them, in order
-- restates: this project's own profile
abbrev pub reports_of : List Logged → List Report
reports_of log = flat_map both_reports log

-- what the operator of the kind adds to its runs for a job, where it was begun
abbrev pub run_of : Kind → Job → Bool → Outcome → List (Job × Outcome)
run_of kind job begun outcome = if begun && same_kind kind job.action.operator then (job, outcome) ∷ [] else []

-- what it adds for all of them, in order
abbrev pub runs_of : Kind → List Logged → List (Job × Outcome)
runs_of kind log = flat_map (λ e. run_of kind e.job e.begun e.outcome) log

-- what it adds to the jobs that it refused, for a job that was not begun
abbrev pub refused_part : Kind → Job → Bool → List Job
refused_part kind job begun = if not begun && same_kind kind job.action.operator then job ∷ [] else []

-- what it adds for all of them, in order
abbrev pub refused_in : Kind → List Logged → List Job
refused_in kind log = flat_map (λ e. refused_part kind e.job e.begun) log

-- the slots that a job takes while it runs
-- restates: Airflow 2, 'Pools'
abbrev pub hold_of : Job → Hold
hold_of job = record { serial = job.serial; pool = job.pool; slots = job.slots }
