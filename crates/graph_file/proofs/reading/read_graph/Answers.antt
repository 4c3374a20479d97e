use Rattle.std.proofs.Common.{sym, ◌∙◌}
use Rattle.toml.specs.View.{table_view}
use Rattle.graph_file.proofs.FaultLemmas.{faultless_top, faultless_schedule, faultless_tasks, faultless_count}
use Rattle.graph_file.proofs.reading.read_graph.Goals as goal

pub graph_in-requires-clause-top : goal.graph_in-requires-clause-top
graph_in-requires-clause-top c = faultless_top (table_view c.in-Ok.table) (sym c.fault_of.ensures ∙ c.in_default.is)

pub graph_in-requires-clause-tasks : goal.graph_in-requires-clause-tasks
graph_in-requires-clause-tasks c = faultless_tasks (table_view c.in-Ok.table) (sym c.fault_of.ensures ∙ c.in_default.is)

pub graph_in-requires-clause-schedule : goal.graph_in-requires-clause-schedule
graph_in-requires-clause-schedule c = faultless_schedule (table_view c.in-Ok.table) (sym c.fault_of.ensures ∙ c.in_default.is)

pub graph_in-requires-clause-count : goal.graph_in-requires-clause-count
graph_in-requires-clause-count c = faultless_count (table_view c.in-Ok.table) (sym c.fault_of.ensures ∙ c.in_default.is)
