-- What is told in a round of reports.
use Rattle.std.specs.Prelude.{◌≡◌, ℕ, zero, suc, ◌+◌, ◌<◌, ◌≤◌, List, [], ◌∷◌, ◌++◌, length, slice_index_or}
use Rattle.instance_machine.specs.declared.tries.Stage.TheVariants as Reached
use Rattle.ruled_dispatch.specs.declared.items.Report.{Report}
use Rattle.ruled_dispatch.specs.declared.items.WorkerReport.{WorkerReport}
use Rattle.ruled_dispatch.specs.declared.lanes.Lanes.{Lanes}
use Rattle.ruled_dispatch.specs.declared.passes.WorkerPass.{WorkerPass}
use Rattle.ruled_dispatch.specs.ReportsRule.{told_by}
use Rattle.ruled_dispatch.specs.Lanes.{told_of, IsWorkerOf}

-- that the tries from 1 to the count have begun, in their order
abbrev pub started : ℕ → List Report
started zero = []
started (suc n) = started n ++ record { serial = n + 1; stage = Reached.Started } ∷ []

-- from one state of a worker's pass to a later one it told that these tries have begun, and nothing else
abbrev pub HasTold : Lanes → ℕ → WorkerPass → WorkerPass → Type 0
HasTold lanes count old new =
    IsWorkerOf lanes new × (new.number ≡ old.number) × (told_of new ≡ told_of old ++ started count)

-- each worker did
abbrev pub HaveTold : Lanes → ℕ → List WorkerPass → List WorkerPass → Type 0
HaveTold lanes count old new =
    (length new ≡ length old)
    × ((k : ℕ) (d : WorkerPass) → k < length old → HasTold lanes count (slice_index_or old k d) (slice_index_or new k d))

-- so many are left, and of each of the workers this was heard and then what is left of it, in order; of anybody else there is nothing
abbrev pub AreHeardBut : ℕ → ℕ → List WorkerReport → ℕ → Type 0
AreHeardBut workers count heard number =
    (left : List WorkerReport)
    × (length left ≡ number)
    × ((k : ℕ) → k < workers → started count ≡ told_by k heard ++ told_by k left)
    × ((k : ℕ) → workers ≤ k → (told_by k heard ≡ []) × (told_by k left ≡ []))
