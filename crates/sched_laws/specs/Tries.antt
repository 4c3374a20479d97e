-- What becomes of the tries that are there.
use Rattle.std.specs.Prelude.{◌≡◌, ℕ, List, Option, Some, find, option_and_then, slice_get}
use Rattle.sched_model.specs.instance_machine.Instances.{InstanceValue}
use Rattle.sched_model.specs.instance_machine.declared.tries.Try.{Try}
use Rattle.sched_model.specs.instance_machine.declared.tries.End.{End}
use Rattle.sched_model.specs.sched_state.declared.runs.Run.{Run}
use Rattle.sched_model.specs.Schedule.{Schedule, dag_named, is_at}
use Rattle.sched_model.specs.Clearing.{place_of}

-- a try stays, perhaps begun or ended by now: its serial and its slots are the same, and so are its start and its end once they are there
pub record IsLaterTry (t u : Try) : Type 0 where
  pub serial : u.serial ≡ t.serial
  pub slots : u.slots ≡ t.slots
  pub started : (moment : ℕ) → t.started ≡ Some moment → u.started ≡ Some moment
  pub ended : (end : End) → t.ended ≡ Some end → u.ended ≡ Some end

-- the run of a graph with a logical date
abbrev pub run_at : List ℕ → ℕ → List Run → Option Run
run_at id date rs = find (is_at id date) rs

-- a try of a run: of the instance at a place the one at a position, both counted from 0
abbrev pub try_in : ℕ → ℕ → Run → Option Try
try_in place n r = option_and_then (λ (i : InstanceValue). slice_get i.tries n) (slice_get r.instances place)

-- the same of the run of a graph with a logical date
abbrev pub try_at : Schedule → List ℕ → ℕ → ℕ → ℕ → Option Try
try_at a id date place n = option_and_then (try_in place n) (run_at id date a.runs)

-- the same of the instance of a task
abbrev pub try_of : Schedule → List ℕ → ℕ → List ℕ → ℕ → Option Try
try_of a id date task n = option_and_then (λ p. try_at a id date p n) (place_of (dag_named a id).tasks task)
