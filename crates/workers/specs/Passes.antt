-- A pass that stays what it was, whatever it has done.
use Rattle.std.specs.Prelude.{◌≡◌}
use Rattle.ruled_dispatch.specs.declared.lanes.Lanes.{Lanes}
use Rattle.ruled_dispatch.specs.declared.passes.WorkerPass.{WorkerPass}
use Rattle.ruled_dispatch.specs.Lanes.{IsWorkerOf}

-- it belongs to the lanes that it belonged to, under the same number
abbrev pub StaysWith : WorkerPass → WorkerPass → Type 0
StaysWith old new = ((lanes : Lanes) → IsWorkerOf lanes old → IsWorkerOf lanes new) × (new.number ≡ old.number)
