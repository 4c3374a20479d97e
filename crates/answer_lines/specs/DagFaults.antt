-- The faults of files that are no graphs.
-- restates: this project's own profile
use Rattle.std.specs.Prelude.{ℕ, List, ◌++◌, codes}
use Rattle.std.specs.Fmt.{decimal}
use Rattle.std.specs.List.{flat_map}
use Rattle.dag_check.specs.declared.faults.DagFault.{DagFault}
use Rattle.dag_check.specs.declared.faults.DagFault.TheVariants.{DoubleTask, UnknownUpstream, DoubleEdge, Cycle, Memory}
use Rattle.answer_lines.specs.Runs.{after_blank}

-- the number and the name of a fault, with the task's position in the file from 0, or a cycle's tasks in their order
abbrev pub dag_fault_text : DagFault → List ℕ
dag_fault_text (DoubleTask i) = codes "1 DoubleTask " ++ decimal i
dag_fault_text (UnknownUpstream i) = codes "2 UnknownUpstream " ++ decimal i
dag_fault_text (DoubleEdge i) = codes "3 DoubleEdge " ++ decimal i
dag_fault_text (Cycle names) = codes "4 Cycle" ++ flat_map after_blank names
dag_fault_text Memory = codes "5 Memory"
