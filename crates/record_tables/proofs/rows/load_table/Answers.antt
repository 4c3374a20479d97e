use Rattle.std.proofs.Common.{refl, ap}
use Rattle.sqlite.specs.Held.{state}
use Rattle.record_rows.specs.Rows.{Rows}
use Rattle.record_rows.specs.declared.tables.Table.TheVariants as table
use Rattle.record_rules.specs.Keys.{meta_row_before, pool_row_before, dag_row_before, dag_limit_row_before, run_row_before, instance_row_before, attempt_row_before}
use Rattle.record_rules.specs.Cells.{meta_cells, pool_cells, dag_cells, dag_limit_cells, run_cells, instance_cells, attempt_cells}
use Rattle.record_tables.proofs.LoadLemmas.{loads_of}
use Rattle.record_tables.proofs.MetaLemmas as meta
use Rattle.record_tables.proofs.PoolLemmas as pool
use Rattle.record_tables.proofs.DagLemmas as dag
use Rattle.record_tables.proofs.DagLimitLemmas as dag_limit
use Rattle.record_tables.proofs.RunLemmas as run
use Rattle.record_tables.proofs.InstanceLemmas as instance
use Rattle.record_tables.proofs.AttemptLemmas as attempt
use Rattle.record_tables.proofs.rows.load_table.Goals as goal

pub returns-in-Meta-clause-loads : goal.returns-in-Meta-clause-loads
returns-in-Meta-clause-loads g c =
    loads_of table.Meta meta_cells meta_row_before (λ rows. rows.metas) (λ rows these. record rows { metas = these }) meta.kept c.args.table c.in-Meta.is (λ stored into. refl) (state g.S.Store c.args.tx.now.conn.now) (state g.S.Store c.load_into.new.tx.conn.now)
    c.args.rows.now _ c.load_into.new.into.items (ap (λ (rows : Rows). record rows { metas = c.load_into.new.into.items }) c.rows.view_is) c.load_into.result c.load_into.ensures.list c.load_into.ensures.texts c.load_into.ensures.fault

pub returns-in-Pool-clause-loads : goal.returns-in-Pool-clause-loads
returns-in-Pool-clause-loads g c =
    loads_of table.Pool pool_cells pool_row_before (λ rows. rows.pools) (λ rows these. record rows { pools = these }) pool.kept c.args.table c.in-Pool.is (λ stored into. refl) (state g.S.Store c.args.tx.now.conn.now) (state g.S.Store c.load_into-in-Pool.new.tx.conn.now)
    c.args.rows.now _ c.load_into-in-Pool.new.into.items (ap (λ (rows : Rows). record rows { pools = c.load_into-in-Pool.new.into.items }) c.rows.view_is) c.load_into-in-Pool.result c.load_into-in-Pool.ensures.list c.load_into-in-Pool.ensures.texts c.load_into-in-Pool.ensures.fault

pub returns-in-Dag-clause-loads : goal.returns-in-Dag-clause-loads
returns-in-Dag-clause-loads g c =
    loads_of table.Dag dag_cells dag_row_before (λ rows. rows.dags) (λ rows these. record rows { dags = these }) dag.kept c.args.table c.in-Dag.is (λ stored into. refl) (state g.S.Store c.args.tx.now.conn.now) (state g.S.Store c.load_into-in-Dag.new.tx.conn.now)
    c.args.rows.now _ c.load_into-in-Dag.new.into.items (ap (λ (rows : Rows). record rows { dags = c.load_into-in-Dag.new.into.items }) c.rows.view_is) c.load_into-in-Dag.result c.load_into-in-Dag.ensures.list c.load_into-in-Dag.ensures.texts c.load_into-in-Dag.ensures.fault

pub returns-in-DagLimit-clause-loads : goal.returns-in-DagLimit-clause-loads
returns-in-DagLimit-clause-loads g c =
    loads_of table.DagLimit dag_limit_cells dag_limit_row_before (λ rows. rows.dag_limits) (λ rows these. record rows { dag_limits = these }) dag_limit.kept c.args.table c.in-DagLimit.is (λ stored into. refl) (state g.S.Store c.args.tx.now.conn.now) (state g.S.Store c.load_into-in-DagLimit.new.tx.conn.now)
    c.args.rows.now _ c.load_into-in-DagLimit.new.into.items (ap (λ (rows : Rows). record rows { dag_limits = c.load_into-in-DagLimit.new.into.items }) c.rows.view_is) c.load_into-in-DagLimit.result c.load_into-in-DagLimit.ensures.list c.load_into-in-DagLimit.ensures.texts c.load_into-in-DagLimit.ensures.fault

pub returns-in-Run-clause-loads : goal.returns-in-Run-clause-loads
returns-in-Run-clause-loads g c =
    loads_of table.Run run_cells run_row_before (λ rows. rows.runs) (λ rows these. record rows { runs = these }) run.kept c.args.table c.in-Run.is (λ stored into. refl) (state g.S.Store c.args.tx.now.conn.now) (state g.S.Store c.load_into-in-Run.new.tx.conn.now)
    c.args.rows.now _ c.load_into-in-Run.new.into.items (ap (λ (rows : Rows). record rows { runs = c.load_into-in-Run.new.into.items }) c.rows.view_is) c.load_into-in-Run.result c.load_into-in-Run.ensures.list c.load_into-in-Run.ensures.texts c.load_into-in-Run.ensures.fault

pub returns-in-Instance-clause-loads : goal.returns-in-Instance-clause-loads
returns-in-Instance-clause-loads g c =
    loads_of table.Instance instance_cells instance_row_before (λ rows. rows.instances) (λ rows these. record rows { instances = these }) instance.kept c.args.table c.in-Instance.is (λ stored into. refl) (state g.S.Store c.args.tx.now.conn.now) (state g.S.Store c.load_into-in-Instance.new.tx.conn.now)
    c.args.rows.now _ c.load_into-in-Instance.new.into.items (ap (λ (rows : Rows). record rows { instances = c.load_into-in-Instance.new.into.items }) c.rows.view_is) c.load_into-in-Instance.result c.load_into-in-Instance.ensures.list c.load_into-in-Instance.ensures.texts c.load_into-in-Instance.ensures.fault

pub returns-in-Attempt-clause-loads : goal.returns-in-Attempt-clause-loads
returns-in-Attempt-clause-loads g c =
    loads_of table.Attempt attempt_cells attempt_row_before (λ rows. rows.attempts) (λ rows these. record rows { attempts = these }) attempt.kept c.args.table c.in-Attempt.is (λ stored into. refl) (state g.S.Store c.args.tx.now.conn.now) (state g.S.Store c.load_into-in-Attempt.new.tx.conn.now)
    c.args.rows.now _ c.load_into-in-Attempt.new.into.items (ap (λ (rows : Rows). record rows { attempts = c.load_into-in-Attempt.new.into.items }) c.rows.view_is) c.load_into-in-Attempt.result c.load_into-in-Attempt.ensures.list c.load_into-in-Attempt.ensures.texts c.load_into-in-Attempt.ensures.fault
