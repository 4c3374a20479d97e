-- What an answer without positions says.
use Rattle.std.specs.Prelude.{List, length}
use Rattle.graph_file.specs.declared.task_specs.TaskSpec.{TaskSpec}
use Rattle.dag_check.specs.declared.positions.Unplaced.{Unplaced}
use Rattle.dag_check.specs.declared.positions.Unplaced.TheVariants.{At, Memory}
use Rattle.dag_check.specs.Names.{is_double, is_unknown, FirstBelow}

abbrev pub IsDoubleAt : List TaskSpec → Unplaced → Type 0
IsDoubleAt tasks (At i) = FirstBelow (is_double tasks) (length tasks) i
IsDoubleAt tasks Memory = Unit {0}

abbrev pub IsUnknownAt : List TaskSpec → Unplaced → Type 0
IsUnknownAt tasks (At i) = FirstBelow (is_unknown tasks) (length tasks) i
IsUnknownAt tasks Memory = Unit {0}
