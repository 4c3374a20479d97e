-- What is changed in one run.
use Rattle.std.specs.Prelude.{ℕ, List, length, option_map, unwrap_or, slice_get}
use Rattle.instance_machine.specs.Instances.{InstanceValue}
use Rattle.sched_state.specs.declared.runs.Run.{Run}
pub use Rattle.sched_model.specs.Schedule.{in_phase}

-- a run with other instances
abbrev pub with_instances : List InstanceValue → Run → Run
with_instances is r = record r { instances = is }

-- how many instances the run at the position has: 0 where there is none
abbrev pub instances_at : ℕ → List Run → ℕ
instances_at n rs = unwrap_or (option_map (λ (r : Run). length r.instances) (slice_get rs n)) 0
