use Rattle.std.proofs.Common.{take}
use Rattle.std.specs.List.{flat_map}
use Rattle.std.specs.Io.KnownBytes.{Appends}
use Rattle.answer_lines.specs.Runs.{after_blank}
use Rattle.answer_lines.proofs.dag_faults.put_names.Given as goal

abbrev pub invariant-loop-name : goal.invariant-loop-name
invariant-loop-name g l = Appends (g.W.Write.contents l.fn.output) (g.W.Write.contents l.output) (flat_map after_blank (take l.name-index l.names))
