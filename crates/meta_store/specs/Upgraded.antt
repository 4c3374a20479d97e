-- A record of version 1 as version 2 has it.
use Rattle.std.specs.Prelude.{pos, map, List}
use Rattle.record_rows.specs.Rows.{Rows, MetaRow, DagRow, DagLimitRow}
use Rattle.record_rules.specs.Changes.{no_rows}
use Rattle.sched_model.specs.Schedule.{old_bound}

-- the bound of a graph from before there were bounds
abbrev pub old_limit : DagRow → DagLimitRow
old_limit d = record { dag_id = d.dag_id; max_active_tasks = pos old_bound }

-- the row of `meta`, of version 2
abbrev pub second : MetaRow → MetaRow
second m = record m { version = pos 2 }

-- the rows of a record of version 1, as version 2 has them
abbrev pub upgraded : Rows → Rows
upgraded old = record old { metas = map second old.metas; dag_limits = map old_limit old.dags }

-- the rows in which version 2 differs, of rows of `meta` and of graphs
abbrev pub second_rows : List MetaRow → List DagRow → Rows
second_rows ms ds = record no_rows { metas = map second ms; dag_limits = map old_limit ds }
