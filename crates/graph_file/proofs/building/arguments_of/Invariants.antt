use Rattle.std.proofs.Common.{◌≡◌, map, take}
use Rattle.toml.specs.View.{view}
use Rattle.graph_file.specs.Values.{text_of}
use Rattle.graph_file.proofs.building.arguments_of.Given as goal

abbrev pub invariant-loop-value : goal.invariant-loop-value
invariant-loop-value l = l.found.items ≡ map text_of (map view (take l.value-index l.values))
