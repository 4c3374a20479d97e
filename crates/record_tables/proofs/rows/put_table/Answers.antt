use Rattle.sqlite.specs.Held.{state}
use Rattle.record_rows.specs.declared.tables.Table.TheVariants as table
use Rattle.record_rules.specs.Keys.{meta_row_before, pool_row_before, dag_row_before, dag_limit_row_before, run_row_before, instance_row_before, attempt_row_before}
use Rattle.record_tables.specs.Puts.{put_in}
use Rattle.record_tables.proofs.PutLemmas.{goes_of}
use Rattle.record_tables.proofs.rows.put_table.Goals as goal

pub returns-in-Meta-clause-ok : goal.returns-in-Meta-clause-ok
returns-in-Meta-clause-ok g c =
    goes_of table.Meta c.args.table c.in-Meta.is (put_in (λ rows. rows.metas) (λ rows these. record rows { metas = these }) meta_row_before) (λ rows. rows.metas) (λ new. Rattle.std.proofs.Common.refl) _ _ c.args.rows.now c.as_slice.ensures.value c.rows.view_is
    (state g.S.Store c.args.tx.now.conn.now) (state g.S.Store c.put_all.new.tx.conn.now) c.put_all.result c.put_all.ensures.ok

pub returns-in-Pool-clause-ok : goal.returns-in-Pool-clause-ok
returns-in-Pool-clause-ok g c =
    goes_of table.Pool c.args.table c.in-Pool.is (put_in (λ rows. rows.pools) (λ rows these. record rows { pools = these }) pool_row_before) (λ rows. rows.pools) (λ new. Rattle.std.proofs.Common.refl) _ _ c.args.rows.now c.as_slice-in-Pool.ensures.value c.rows.view_is
    (state g.S.Store c.args.tx.now.conn.now) (state g.S.Store c.put_all-in-Pool.new.tx.conn.now) c.put_all-in-Pool.result c.put_all-in-Pool.ensures.ok

pub returns-in-Dag-clause-ok : goal.returns-in-Dag-clause-ok
returns-in-Dag-clause-ok g c =
    goes_of table.Dag c.args.table c.in-Dag.is (put_in (λ rows. rows.dags) (λ rows these. record rows { dags = these }) dag_row_before) (λ rows. rows.dags) (λ new. Rattle.std.proofs.Common.refl) _ _ c.args.rows.now c.as_slice-in-Dag.ensures.value c.rows.view_is
    (state g.S.Store c.args.tx.now.conn.now) (state g.S.Store c.put_all-in-Dag.new.tx.conn.now) c.put_all-in-Dag.result c.put_all-in-Dag.ensures.ok

pub returns-in-DagLimit-clause-ok : goal.returns-in-DagLimit-clause-ok
returns-in-DagLimit-clause-ok g c =
    goes_of table.DagLimit c.args.table c.in-DagLimit.is (put_in (λ rows. rows.dag_limits) (λ rows these. record rows { dag_limits = these }) dag_limit_row_before) (λ rows. rows.dag_limits) (λ new. Rattle.std.proofs.Common.refl) _ _ c.args.rows.now c.as_slice-in-DagLimit.ensures.value c.rows.view_is
    (state g.S.Store c.args.tx.now.conn.now) (state g.S.Store c.put_all-in-DagLimit.new.tx.conn.now) c.put_all-in-DagLimit.result c.put_all-in-DagLimit.ensures.ok

pub returns-in-Run-clause-ok : goal.returns-in-Run-clause-ok
returns-in-Run-clause-ok g c =
    goes_of table.Run c.args.table c.in-Run.is (put_in (λ rows. rows.runs) (λ rows these. record rows { runs = these }) run_row_before) (λ rows. rows.runs) (λ new. Rattle.std.proofs.Common.refl) _ _ c.args.rows.now c.as_slice-in-Run.ensures.value c.rows.view_is
    (state g.S.Store c.args.tx.now.conn.now) (state g.S.Store c.put_all-in-Run.new.tx.conn.now) c.put_all-in-Run.result c.put_all-in-Run.ensures.ok

pub returns-in-Instance-clause-ok : goal.returns-in-Instance-clause-ok
returns-in-Instance-clause-ok g c =
    goes_of table.Instance c.args.table c.in-Instance.is (put_in (λ rows. rows.instances) (λ rows these. record rows { instances = these }) instance_row_before) (λ rows. rows.instances) (λ new. Rattle.std.proofs.Common.refl) _ _ c.args.rows.now c.as_slice-in-Instance.ensures.value c.rows.view_is
    (state g.S.Store c.args.tx.now.conn.now) (state g.S.Store c.put_all-in-Instance.new.tx.conn.now) c.put_all-in-Instance.result c.put_all-in-Instance.ensures.ok

pub returns-in-Attempt-clause-ok : goal.returns-in-Attempt-clause-ok
returns-in-Attempt-clause-ok g c =
    goes_of table.Attempt c.args.table c.in-Attempt.is (put_in (λ rows. rows.attempts) (λ rows these. record rows { attempts = these }) attempt_row_before) (λ rows. rows.attempts) (λ new. Rattle.std.proofs.Common.refl) _ _ c.args.rows.now c.as_slice-in-Attempt.ensures.value c.rows.view_is
    (state g.S.Store c.args.tx.now.conn.now) (state g.S.Store c.put_all-in-Attempt.new.tx.conn.now) c.put_all-in-Attempt.result c.put_all-in-Attempt.ensures.ok
