use Rattle.std.proofs.Common.{◌≡◌, drop, map}
use Rattle.toml.specs.View.{table_view}
use Rattle.graph_file.specs.Lists.{first_some}
use Rattle.graph_file.specs.Faults.{fault_in}
use Rattle.graph_file.proofs.finding.first_fault.Given as goal

abbrev pub invariant-loop-class : goal.invariant-loop-class
invariant-loop-class l =
    first_some (map (fault_in (table_view l.table)) (drop l.class-index l.classes)) ≡ first_some (map (fault_in (table_view l.table)) l.classes)
