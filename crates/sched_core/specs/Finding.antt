-- Where a try is found.
use Rattle.std.specs.Prelude.{◌≡◌, ℕ, ◌&&◌, ◌==◌, List, find, flat_map, Some, slice_get}
use Rattle.instance_machine.specs.Instances.{InstanceValue}
use Rattle.instance_machine.specs.declared.tries.Try.{Try}
use Rattle.sched_state.specs.declared.runs.Run.{Run}
use Rattle.sched_model.specs.States.{is_open}
use Rattle.sched_core.specs.declared.finding.Found.{Found}

-- the tries of all instances of the run
abbrev pub tries_in : Run → List Try
tries_in r = flat_map (λ (i : InstanceValue). i.tries) r.instances

-- it is a try of the instance at the place, without an end and with this serial
pub record IsFoundIn (serial : ℕ) (is : List InstanceValue) (f : ℕ × Try) : Type 0 where
  pub instance : InstanceValue
  pub there : slice_get is f.0 ≡ Some instance
  pub first : find (λ t. is_open t && t.serial == serial) instance.tries ≡ Some f.1

-- and that of the run at the position
pub record IsFoundAt (serial : ℕ) (rs : List Run) (f : Found) : Type 0 where
  pub run : Run
  pub there : slice_get rs f.position ≡ Some run
  pub instance : IsFoundIn serial run.instances (f.place, f.one)
