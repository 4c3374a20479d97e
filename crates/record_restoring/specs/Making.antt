-- A task instance by its row and the rows of its tries.
use Rattle.std.specs.Prelude.{ℕ, pos, Bool, ◌&&◌, List, map, int_le}
use Rattle.std.specs.Ordering.{int_eq}
use Rattle.instance_machine.specs.Instances.{InstanceValue}
use Rattle.record_rows.specs.Rows.{InstanceRow, AttemptRow}
use Rattle.record_rules.specs.Numbers.{natural}
use Rattle.record_rules.specs.Reading.{verdict_of, try_of}
use Rattle.record_rules.specs.Faults.{is_end_row_right}

-- an instance by its row and the rows of its tries
abbrev pub instance_of : InstanceRow → List AttemptRow → InstanceValue
instance_of x ws = record { verdict = verdict_of (natural x.verdict); since = natural x.since; tries = map try_of ws }

-- the columns of a try are in their ranges, and its slots are these
abbrev pub is_readable : ℕ → AttemptRow → Bool
is_readable slots w = int_le (pos 1) w.serial && (int_eq w.slots (pos slots) && is_end_row_right w.started w.ended w.outcome)
