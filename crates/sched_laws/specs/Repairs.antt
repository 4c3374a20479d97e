-- What is looked at after repairs of past days.
use Rattle.std.specs.Prelude.{ℕ, Option, option_and_then, slice_get}
use Rattle.sched_model.specs.instance_machine.Instances.{InstanceValue}
use Rattle.sched_model.specs.Schedule.{Schedule}
use Rattle.sched_model.specs.sched_state.declared.runs.Run.{Run}

-- the instance at a place of the run at a position
abbrev pub instance_at : Schedule → ℕ → ℕ → Option InstanceValue
instance_at a n p = option_and_then (λ (r : Run). slice_get r.instances p) (slice_get a.runs n)
