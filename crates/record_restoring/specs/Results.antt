-- What is answered of rows that are read.
use Rattle.std.specs.Prelude.{◌≡◌, ℕ, Bool, true, false, Option, Some}
use Rattle.record_rows.specs.declared.tables.Table.{Table}
use Rattle.dag_check.specs.declared.faults.DagFault.{DagFault}
use Rattle.dag_check.specs.declared.faults.DagFault.TheVariants as dag
use Rattle.record_restoring.specs.declared.faults.RestoreFault.{RestoreFault}
use Rattle.record_restoring.specs.declared.faults.RestoreFault.TheVariants.{Inconsistent, Memory}

-- the answer is this fault, or that memory ran out
abbrev pub IsFault : Option (Table × ℕ) → RestoreFault → Type 0
IsFault o (Inconsistent t n) = o ≡ Some (t, n)
IsFault o Memory = Unit {0}

-- memory ran out while a graph was checked
abbrev pub is_memory : DagFault → Bool
is_memory dag.Memory = true
is_memory (dag.DoubleTask i) = false
is_memory (dag.UnknownUpstream i) = false
is_memory (dag.DoubleEdge i) = false
is_memory (dag.Cycle names) = false
