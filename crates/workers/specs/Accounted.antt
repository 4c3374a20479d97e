-- What the logs of the workers say, beside what the director sent and heard.
use Rattle.std.specs.Prelude.{◌≡◌, ◌==◌, ℕ, ◌+◌, ◌<◌, ◌≤◌, Bool, List, [], ◌∷◌, ◌++◌, length, map, filter, slice_index_or, sum_by, replicate}
use Rattle.std.specs.List.{list_any, count_by}
use Rattle.ruled_dispatch.specs.declared.items.JobOrStop.{JobOrStop}
use Rattle.ruled_dispatch.specs.declared.items.JobOrStop.TheVariants as items
use Rattle.ruled_dispatch.specs.declared.items.Report.{Report}
use Rattle.ruled_dispatch.specs.declared.items.WorkerReport.{WorkerReport}
use Rattle.ruled_dispatch.specs.declared.lanes.Lanes.{Lanes}
use Rattle.ruled_dispatch.specs.declared.passes.WorkerPass.{WorkerPass}
use Rattle.ruled_dispatch.specs.ReportsRule.{told_by}
use Rattle.ruled_dispatch.specs.Lanes.{taken_of, told_of, IsWorkerOf}
use Rattle.slot_desk.specs.declared.holds.Hold.{Hold}
use Rattle.operators.specs.declared.kits.Kit.{Kit}
use Rattle.workers.specs.declared.crews.WorkerEnd.{WorkerEnd}
use Rattle.workers.specs.declared.logs.Logged.{Logged}
use Rattle.workers.specs.Logs.{jobs_of, reports_of}
use Rattle.workers.specs.Accounts.{IsAccount}
use Rattle.workers.specs.Shows.{Shows}

module _ {G O : Type 0} where
  -- the pass is the one of this number of the lanes; under it the jobs of the log were taken, before one stop, and told what the log says
  pub record IsBack (lanes : Lanes) (worker : ℕ) (end : WorkerEnd G O) (pass : WorkerPass) : Type 0 where
    pub of : IsWorkerOf lanes pass
    pub number : pass.number ≡ worker
    pub took : taken_of pass ≡ jobs_of end.log.items ++ items.Stop ∷ []
    pub told : told_of pass ≡ reports_of end.log.items

  -- each worker's pass is back, at the place that is its number
  abbrev pub AreBack : Lanes → List (WorkerEnd G O × WorkerPass × List Hold) → Type 0
  AreBack lanes results =
      (i : ℕ) (r : WorkerEnd G O × WorkerPass × List Hold) → i < length results
      → IsBack lanes i (slice_index_or results i r).0 (slice_index_or results i r).1

  -- each item stands among these as often as in the logs, but for one stop for each worker
  -- restates: this project's own profile
  abbrev pub StandInLogs : List JobOrStop → List (WorkerEnd G O) → Type 0
  StandInLogs sent ends =
      (weight : JobOrStop → ℕ)
      → sum_by weight sent ≡ sum_by (λ e. sum_by weight (jobs_of e.log.items)) ends + sum_by weight (replicate (length ends) items.Stop)

  -- what was heard of each worker is what its log says that it told, and of nobody else anything was heard
  -- restates: this project's own profile
  abbrev pub AreHeard : List WorkerReport → List (WorkerEnd G O) → Type 0
  AreHeard heard ends =
      ((k : ℕ) (e : WorkerEnd G O) → k < length ends → told_by k heard ≡ reports_of (slice_index_or ends k e).log.items)
      × ((k : ℕ) → length ends ≤ k → told_by k heard ≡ [])

  -- no item stands in the logs more often than it was sent, beside one stop for each worker
  -- restates: this project's own profile
  abbrev pub AreAmongSent : List JobOrStop → List (WorkerEnd G O) → Type 0
  AreAmongSent sent ends =
      (weight : JobOrStop → ℕ)
      → sum_by (λ e. sum_by weight (jobs_of e.log.items)) ends + sum_by weight (replicate (length ends) items.Stop) ≤ sum_by weight sent

  -- nothing was heard more often than the logs tell it
  -- restates: this project's own profile
  abbrev pub AreAmongTold : List WorkerReport → List (WorkerEnd G O) → Type 0
  AreAmongTold heard ends =
      (weight : Report → ℕ) → sum_by weight (map (λ r. r.report) heard) ≤ sum_by (λ e. sum_by weight (reports_of e.log.items)) ends

  -- each log is an account of the kit at its place, from what it was to what came back
  abbrev pub AreAccounts : Shows O → List (Kit O) → List (WorkerEnd G O) → Type 0
  AreAccounts shows kits ends =
      (k : ℕ) (kit : Kit O) (e : WorkerEnd G O) → k < length ends
      → IsAccount shows (slice_index_or kits k kit) (slice_index_or ends k e).kit (slice_index_or ends k e).log.items

-- a job of this serial stands in the log
abbrev pub has_serial : ℕ → List Logged → Bool
has_serial serial log = list_any (λ e. e.job.serial == serial) log

-- how often a job of this serial stands in the log
abbrev pub times : ℕ → List Logged → ℕ
times serial log = count_by (λ e. e.job.serial == serial) log

-- what was heard of the jobs that stand in the log, whoever told it, in order
abbrev pub reports_about : List Logged → List WorkerReport → List Report
reports_about log heard = map (λ r. r.report) (filter (λ r. has_serial r.report.serial log) heard)
