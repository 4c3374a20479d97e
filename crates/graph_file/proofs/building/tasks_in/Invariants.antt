use Rattle.std.proofs.Common.{◌≡◌, map, take}
use Rattle.toml.specs.View.{view}
use Rattle.graph_file.specs.Graphs.{task_of}
use Rattle.graph_file.proofs.building.tasks_in.Given as goal

abbrev pub invariant-loop-value : goal.invariant-loop-value
invariant-loop-value l = l.found.items ≡ map task_of (map view (take l.value-index l.values))
