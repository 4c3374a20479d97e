-- What contracts say of the lanes and of the passes that belong to them.
use Rattle.std.specs.Prelude.{◌≡◌, ℕ, ◌+◌, ◌<◌, ◌≤◌, List, [], ◌++◌, length, All, sum_by, slice_index_or}
use Rattle.crossbeam_queue.specs.Passes.{view, IsPassOf, ruled_capacity}
use Rattle.ruled_dispatch.specs.declared.items.JobOrStop.{JobOrStop}
use Rattle.ruled_dispatch.specs.declared.items.Report.{Report}
use Rattle.ruled_dispatch.specs.declared.items.WorkerReport.{WorkerReport}
use Rattle.ruled_dispatch.specs.declared.lanes.Lanes.{Lanes}
use Rattle.ruled_dispatch.specs.declared.passes.DirectorPass.{DirectorPass}
use Rattle.ruled_dispatch.specs.declared.passes.WorkerPass.{WorkerPass}
use Rattle.ruled_dispatch.specs.JobsRule.{all_parts, AreAmong}
use Rattle.ruled_dispatch.specs.ReportsRule.{told_by}

-- what the director sent, in its order
-- restates: this project's own profile
abbrev pub sent_of : DirectorPass → List JobOrStop
sent_of director = (view director.jobs).sent

-- what the director heard, in its order
-- restates: this project's own profile
abbrev pub heard_of : DirectorPass → List WorkerReport
heard_of director = (view director.reports).heard

-- what the worker took, in its order
-- restates: this project's own profile
abbrev pub taken_of : WorkerPass → List JobOrStop
taken_of worker = (view worker.jobs).taken

-- what the worker told, in its order
-- restates: this project's own profile
abbrev pub told_of : WorkerPass → List Report
told_of worker = (view worker.reports).told

-- how many jobs and stops there is room for
-- restates: this project's own profile
abbrev pub job_capacity_of : Lanes → ℕ
job_capacity_of lanes = ruled_capacity lanes.jobs

-- how many reports there is room for
-- restates: this project's own profile
abbrev pub report_capacity_of : Lanes → ℕ
report_capacity_of lanes = ruled_capacity lanes.reports

-- it is the pass that sends and hears of these lanes
abbrev pub IsDirectorOf : Lanes → DirectorPass → Type 0
IsDirectorOf lanes director = IsPassOf lanes.jobs director.jobs × IsPassOf lanes.reports director.reports

-- it is a pass that takes and tells of these lanes
abbrev pub IsWorkerOf : Lanes → WorkerPass → Type 0
IsWorkerOf lanes worker = IsPassOf lanes.jobs worker.jobs × IsPassOf lanes.reports worker.reports

-- beside this pass there are so many of workers: the parts that it lacks are theirs, one each, and as many numbers were given
abbrev pub HasWorkers : DirectorPass → ℕ → Type 0
HasWorkers director count = ((view director.jobs).parts + count ≡ all_parts) × ((view director.reports).made ≡ count)

-- each worker stands at the place that is its number
abbrev pub AreNumbered : List WorkerPass → Type 0
AreNumbered workers = (k : ℕ) (d : WorkerPass) → k < length workers → (slice_index_or workers k d).number ≡ k

-- these are all passes of the lanes
abbrev pub AreAllOf : Lanes → DirectorPass → List WorkerPass → Type 0
AreAllOf lanes director workers =
    IsDirectorOf lanes director × All (IsWorkerOf lanes) workers × HasWorkers director (length workers)

-- the queue of jobs held as many items as it has room for, and this pass had sent each of them
abbrev pub JobsWereFull : Lanes → DirectorPass → Type 0
JobsWereFull lanes director =
    (held : List JobOrStop) × (length held ≡ job_capacity_of lanes) × AreAmong held (sent_of director)

-- each item was sent as often as it was taken or is left, by every weight
abbrev pub IsAccountedFor : DirectorPass → List WorkerPass → List JobOrStop → Type 0
IsAccountedFor director workers left =
    (weight : JobOrStop → ℕ)
    → sum_by weight (sent_of director) ≡ sum_by (λ w. sum_by weight (taken_of w)) workers + sum_by weight left

-- so many items are left, and with these all are accounted for
abbrev pub IsSettledBut : DirectorPass → List WorkerPass → ℕ → Type 0
IsSettledBut director workers count =
    (left : List JobOrStop) × (length left ≡ count) × IsAccountedFor director workers left

-- what each worker told is what was heard of it and then what is left of it, in order
abbrev pub IsHeard : DirectorPass → List WorkerPass → List WorkerReport → Type 0
IsHeard director workers left =
    All (λ w. told_of w ≡ told_by w.number (heard_of director) ++ told_by w.number left) workers

-- the numbers below are those of the workers: of any other nothing was heard, and nothing is left
abbrev pub IsOfNobodyElse : DirectorPass → List WorkerPass → List WorkerReport → Type 0
IsOfNobodyElse director workers left =
    (k : ℕ) → length workers ≤ k → (told_by k (heard_of director) ≡ []) × (told_by k left ≡ [])

-- so many reports are left, and with these what was heard is what the workers told, and nothing else
abbrev pub IsHeardBut : DirectorPass → List WorkerPass → ℕ → Type 0
IsHeardBut director workers count =
    (left : List WorkerReport)
    × (length left ≡ count)
    × IsHeard director workers left
    × IsOfNobodyElse director workers left
