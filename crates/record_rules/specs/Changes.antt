-- Which rows a change of a schedule is: those that the tables after it have and the tables before it lack.
use Rattle.std.specs.Prelude.{Bool, []}
use Rattle.record_rows.specs.Rows.{Rows, MetaRow, PoolRow, DagRow, DagLimitRow, RunRow, InstanceRow, AttemptRow}
use Rattle.sched_laws.specs.sched_model.Schedule.{Schedule}
use Rattle.sched_laws.specs.sched_model.Tables.{tables}
use Rattle.record_rules.specs.Between.{puts, lacked}
use Rattle.record_rules.specs.Cells.{same_cells, meta_cells, pool_cells, dag_cells, dag_limit_cells, run_cells, instance_cells, attempt_cells}
use Rattle.record_rules.specs.Keys.{meta_row_before, pool_row_before, dag_row_before, dag_limit_row_before, run_row_before, instance_row_before, attempt_row_before}

-- ---- two rows are the same in all columns
abbrev pub same_meta_row : MetaRow → MetaRow → Bool
same_meta_row x y = same_cells (meta_cells x) (meta_cells y)

abbrev pub same_pool_row : PoolRow → PoolRow → Bool
same_pool_row x y = same_cells (pool_cells x) (pool_cells y)

abbrev pub same_dag_row : DagRow → DagRow → Bool
same_dag_row x y = same_cells (dag_cells x) (dag_cells y)

abbrev pub same_dag_limit_row : DagLimitRow → DagLimitRow → Bool
same_dag_limit_row x y = same_cells (dag_limit_cells x) (dag_limit_cells y)

abbrev pub same_run_row : RunRow → RunRow → Bool
same_run_row x y = same_cells (run_cells x) (run_cells y)

abbrev pub same_instance_row : InstanceRow → InstanceRow → Bool
same_instance_row x y = same_cells (instance_cells x) (instance_cells y)

abbrev pub same_attempt_row : AttemptRow → AttemptRow → Bool
same_attempt_row x y = same_cells (attempt_cells x) (attempt_cells y)

-- ---- the rows of one record that another lacks
abbrev pub rows_lacked : Rows → Rows → Rows
rows_lacked old new = record {
  metas = lacked same_meta_row old.metas new.metas;
  pools = lacked same_pool_row old.pools new.pools;
  dags = lacked same_dag_row old.dags new.dags;
  dag_limits = lacked same_dag_limit_row old.dag_limits new.dag_limits;
  runs = lacked same_run_row old.runs new.runs;
  instances = lacked same_instance_row old.instances new.instances;
  attempts = lacked same_attempt_row old.attempts new.attempts;
}

-- the rows that a change of a schedule is
abbrev pub rows_between : Schedule → Schedule → Rows
rows_between a b = rows_lacked (tables a) (tables b)

-- rows put by key over a record, table by table
abbrev pub put_rows : Rows → Rows → Rows
put_rows new old = record {
  metas = puts meta_row_before new.metas old.metas;
  pools = puts pool_row_before new.pools old.pools;
  dags = puts dag_row_before new.dags old.dags;
  dag_limits = puts dag_limit_row_before new.dag_limits old.dag_limits;
  runs = puts run_row_before new.runs old.runs;
  instances = puts instance_row_before new.instances old.instances;
  attempts = puts attempt_row_before new.attempts old.attempts;
}

-- no rows at all
abbrev pub no_rows : Rows
no_rows = record { metas = []; pools = []; dags = []; dag_limits = []; runs = []; instances = []; attempts = [] }
