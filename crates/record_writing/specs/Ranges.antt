-- Numbers that the record's columns hold.
use Rattle.std.specs.Prelude.{◌≡◌, ℕ, ◌+◌, ◌≤◌, true, false, length, Some, slice_get}
use Rattle.dag_check.specs.Names.{ids_of, repeats}
use Rattle.instance_machine.specs.Instances.{InstanceValue}
use Rattle.instance_machine.specs.declared.tries.Try.{Try}
use Rattle.sched_state.specs.declared.runs.Run.{Run}
use Rattle.sched_model.specs.Handout.{last_serial}
use Rattle.sched_model.specs.Lists.{rises}
use Rattle.sched_model.specs.Schedule.{Schedule, dag_among}
use Rattle.sched_model.specs.Tables.{tables, serial_before}

-- the numbers of an instance's tries before its last clearing and in all, and their serials
pub record FitsColumns (i : InstanceValue) : Type 0 where
  pub since : i.since ≤ last_serial
  pub number : length i.tries ≤ last_serial
  pub serial : (n : ℕ) (u : Try) → slice_get i.tries n ≡ Some u → u.serial ≤ last_serial

-- those of each instance of a run
abbrev pub FitColumns : Run → Type 0
FitColumns r = (place : ℕ) (i : InstanceValue) → slice_get r.instances place ≡ Some i → FitsColumns i

-- and those of a schedule, whose serials stand once, and each task of a run once
pub record FitsTables (a : Schedule) : Type 0 where
  pub next : a.next ≤ last_serial + 1
  pub runs : (n : ℕ) (r : Run) → slice_get a.runs n ≡ Some r → FitColumns r
  pub attempts : rises serial_before (tables a).attempts ≡ true
  pub tasks : (n : ℕ) (r : Run) → slice_get a.runs n ≡ Some r → repeats (ids_of (dag_among a.graphs r.graph).tasks) ≡ false
