use Rattle.std.proofs.Common.{take}
use Rattle.std.specs.List.{flat_map}
use Rattle.std.specs.Io.KnownBytes.{Appends}
use Rattle.answer_lines.specs.Dags.{dag_line}
use Rattle.answer_lines.proofs.listing.put_dag_rows.Given as goal

abbrev pub invariant-loop-graph : goal.invariant-loop-graph
invariant-loop-graph g l =
    Appends (g.W.Write.contents l.fn.output) (g.W.Write.contents l.output) (flat_map (dag_line l.schedule.content) (take l.graph-index l.graphs))
