-- What the ends of the crews say of the jobs that were handed out.
use Rattle.std.specs.Prelude.{◌≡◌, ◌⊎◌, ℕ, ◌<◌, ◌≤◌, List, [], length, map, sum_by, slice_index_or, All}
use Rattle.ruled_dispatch.specs.declared.items.Report.{Report}
use Rattle.sched_state.specs.declared.jobs.Job.{Job}
use Rattle.sched_events.specs.Promises.{serials_in}
use Rattle.sched_events.specs.Steps.{handed_along}
use Rattle.sched_events.specs.declared.events.Event.{Event}
use Rattle.sched_model.specs.Schedule.{Schedule}
use Rattle.operators.specs.Kits.{IsKit}
use Rattle.operators.specs.declared.kits.Kit.{Kit}
use Rattle.minutes.specs.Minutes.{of_worker, reports_in}
use Rattle.workers.specs.declared.crews.WorkerEnd.{WorkerEnd}
use Rattle.workers.specs.declared.logs.Logged.{Logged}
use Rattle.workers.specs.Accounted.{AreAccounts}
use Rattle.workers.specs.Ends.{AreInOrder}
use Rattle.workers.specs.Logs.{reports_of}
use Rattle.workers.specs.Shows.{Shows}
use Rattle.kept.specs.Lists.{KeptValue}
use Rattle.kept.specs.declared.lists.Keep.{Keep}

-- the jobs of a log
abbrev pub logged : List Logged → List Job
logged log = map (λ e. e.job) log

-- their serials
abbrev pub serials_of : List Logged → List ℕ
serials_of log = serials_in (logged log)

module _ {G O : Type 0} where
  -- each job stands in the logs as often as among these, and no other does
  -- restates: this project's own profile
  abbrev pub EachStandsInALog : List Job → List (WorkerEnd G O) → Type 0
  EachStandsInALog jobs ends =
      (weight : Job → ℕ) → sum_by weight jobs ≡ sum_by (λ e. sum_by weight (logged e.log.items)) ends

  -- of what the minutes report, what is of a worker's jobs is what that worker told of them
  -- restates: this project's own profile
  abbrev pub EachToldItsOwn : List Event → List (WorkerEnd G O) → Type 0
  EachToldItsOwn minutes ends =
      (k : ℕ) (e : WorkerEnd G O) → k < length ends
      → of_worker (serials_of (slice_index_or ends k e).log.items) minutes ≡ reports_of (slice_index_or ends k e).log.items

  -- of the minutes and of the log of each worker all is kept, or nothing, as this says
  abbrev pub AreKept : Keep → KeptValue Event → List (WorkerEnd G O) → Type 0
  AreKept keep minutes ends = (minutes.keep ≡ keep) × All (λ e. e.log.keep ≡ keep) ends

-- Workers with these kits came to these ends while these minutes were made, from this schedule on. There is an end for each kit, or, where no minute was made,
-- perhaps none; and each end is the one of the worker whose number is its place. The log of each is an account of its kit, which is whole; no job stands in the logs more often than the minutes hand it out; and the minutes report nothing
-- more often than the logs tell it.
-- restates: this project's own profile
pub record HaveWorkedFor {G O : Type 0} (shows : Shows O) (kits : List (Kit O)) (ends : List (WorkerEnd G O)) (minutes : List Event) (a : Schedule) : Type 0 where
  pub back : (length ends ≡ length kits) ⊎ ((ends ≡ []) × (minutes ≡ []))
  pub numbered : AreInOrder ends
  pub accounts : AreAccounts shows kits ends
  pub whole : All (λ e. IsKit shows.kind_of e.kit) ends
  pub handed : (weight : Job → ℕ) → sum_by (λ e. sum_by weight (logged e.log.items)) ends ≤ sum_by weight (handed_along minutes a)
  pub told : (weight : Report → ℕ) → sum_by weight (reports_in minutes) ≤ sum_by (λ e. sum_by weight (reports_of e.log.items)) ends
