-- What contracts see of an executor.
use Rattle.std.specs.Prelude.{◌≡◌, ℕ, ◌+◌, ◌-◌, ◌^◌, List, min}
use Rattle.ruled_dispatch.specs.Lanes.{HasWorkers, heard_of, sent_of}
use Rattle.ruled_dispatch.specs.declared.items.JobOrStop.{JobOrStop}
use Rattle.ruled_dispatch.specs.declared.items.WorkerReport.{WorkerReport}
use Rattle.ruled_dispatch.specs.declared.lanes.Lanes.{Lanes}
use Rattle.ruled_dispatch.specs.declared.passes.DirectorPass.{DirectorPass}

-- the lanes, the pass that sends and hears on them, how often it heard that no report was there, and how often it waited for one
pub record ExecutorValue : Type 0 where
  pub lanes : Lanes
  pub pass : DirectorPass
  pub nones : ℕ
  pub waits : ℕ

-- one more, unless that is more than 64 bits hold
abbrev pub one_more : ℕ → ℕ
one_more n = min (n + 1) (2 ^ 64 - 1)

-- what it sent, and what it heard
abbrev pub has_sent : ExecutorValue → List JobOrStop
has_sent x = sent_of x.pass

abbrev pub has_heard : ExecutorValue → List WorkerReport
has_heard x = heard_of x.pass

-- it is on the same lanes, and beside its pass there are as many workers as there were
pub record IsSameExecutor (old new : ExecutorValue) : Type 0 where
  pub lanes : new.lanes ≡ old.lanes
  pub workers : (count : ℕ) → HasWorkers old.pass count → HasWorkers new.pass count

-- it asked for no report
pub record AsksNothing (old new : ExecutorValue) : Type 0 where
  pub heard : has_heard new ≡ has_heard old
  pub nones : new.nones ≡ old.nones
  pub waits : new.waits ≡ old.waits
