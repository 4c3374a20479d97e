-- The logs of workers, beside the minutes.
use Rattle.std.specs.Prelude.{◌≡◌, ◌==◌, ◌<◌, ◌≤◌, ℕ, Bool, true, List, [], length, map, sum_by, count_by, slice_index_or}
use Rattle.std.specs.List.{list_all}
use Rattle.ruled_dispatch.specs.ReportsRule.{told_by}
use Rattle.ruled_dispatch.specs.declared.items.Report.{Report}
use Rattle.ruled_dispatch.specs.declared.items.WorkerReport.{WorkerReport}
use Rattle.sched_events.specs.Promises.{serials_in}
use Rattle.sched_events.specs.Steps.{handed_along}
use Rattle.sched_events.specs.declared.events.Event.{Event}
use Rattle.sched_model.specs.Schedule.{Schedule}
use Rattle.sched_state.specs.declared.jobs.Job.{Job}
use Rattle.minutes.specs.Minutes.{is_among, reports_in}

-- how often the number stands in the list
abbrev pub times : ℕ → List ℕ → ℕ
times x xs = count_by (λ y. y == x) xs

-- each report is of a try with one of these serials
abbrev pub are_of : List ℕ → List Report → Bool
are_of serials rs = list_all (λ r. is_among serials r.serial) rs

-- The minutes from a schedule on, the jobs in the log of each worker, in the order of the workers' numbers, and what was heard of them.
-- restates: this project's own profile
pub record AreLogs (es : List Event) (a : Schedule) (logs : List (List Job)) (heard : List WorkerReport) : Type 0 where
  -- each job that is handed out stands in one log, once, and no other does
  pub once : (weight : Job → ℕ) → sum_by weight (handed_along es a) ≡ sum_by (λ log. sum_by weight log) logs
  -- what was heard of a worker is of jobs of its log, and of nobody else anything was heard
  pub own : (k : ℕ) → k < length logs → are_of (serials_in (slice_index_or logs k [])) (told_by k heard) ≡ true
  pub others : (k : ℕ) → length logs ≤ k → told_by k heard ≡ []
  -- what was heard is what the minutes report
  pub reported : map (λ t. t.report) heard ≡ reports_in es
