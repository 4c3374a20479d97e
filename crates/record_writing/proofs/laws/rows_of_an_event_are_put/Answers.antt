use Rattle.std.proofs.Common.{◌≡◌, refl, List}
use Rattle.record_rows.specs.Rows.{Rows, MetaRow, PoolRow, DagRow, DagLimitRow, RunRow, InstanceRow, AttemptRow}
use Rattle.record_rules.proofs.KeyedLemmas.{metas_put, pools_put, dags_put, limits_put, runs_put, instances_put, attempts_put}
use Rattle.record_rules.proofs.RisingLemmas.{tables_by_key}
use Rattle.record_rules.specs.sched_model.Tables.{tables}
use Rattle.sched_events.specs.Steps.{step}
use Rattle.sched_events.proofs.StepLemmas.{step_kept}
use Rattle.record_rules.specs.Changes.{same_meta_row, same_pool_row, same_dag_row, same_dag_limit_row, same_run_row, same_instance_row, same_attempt_row}
use Rattle.record_rules.proofs.TellLemmas.{metas_told, pools_told, dags_told, limits_told, runs_told, instances_told, attempts_told}
use Rattle.record_writing.proofs.GraphKeyLemmas.{pools_kept, dags_kept, limits_kept}
use Rattle.record_writing.proofs.RunKeyLemmas.{runs_kept, instances_kept, attempts_kept}
use Rattle.record_writing.proofs.laws.rows_of_an_event_are_put.Goals as goal

abbrev seven : List MetaRow → List PoolRow → List DagRow → List DagLimitRow → List RunRow → List InstanceRow → List AttemptRow → Rows
seven m p d l r i t = record { metas = m; pools = p; dags = d; dag_limits = l; runs = r; instances = i; attempts = t }

made : (m n : List MetaRow) (p q : List PoolRow) (d e : List DagRow) (l k : List DagLimitRow) (r s : List RunRow) (i j : List InstanceRow) (t u : List AttemptRow)
    → m ≡ n → p ≡ q → d ≡ e → l ≡ k → r ≡ s → i ≡ j → t ≡ u → seven m p d l r i t ≡ seven n q e k s j u
made m n p q d e l k r s i j t u h1 h2 h3 h4 h5 h6 h7 = cc

pub returns : goal.returns
returns c e a ranged accepted kept =
    let b = step e a in
    let was = tables_by_key a kept.sound in
    let is = tables_by_key b (step_kept e a ranged accepted kept).sound in
    made _ (tables b).metas _ (tables b).pools _ (tables b).dags _ (tables b).dag_limits _ (tables b).runs _ (tables b).instances _ (tables b).attempts
    (metas_put same_meta_row metas_told (tables a) (tables b) was is refl)
    (pools_put same_pool_row pools_told (tables a) (tables b) was is (pools_kept e a))
    (dags_put same_dag_row dags_told (tables a) (tables b) was is (dags_kept e a))
    (limits_put same_dag_limit_row limits_told (tables a) (tables b) was is (limits_kept e a))
    (runs_put same_run_row runs_told (tables a) (tables b) was is (runs_kept e a))
    (instances_put same_instance_row instances_told (tables a) (tables b) was is (instances_kept e a ranged accepted kept))
    (attempts_put same_attempt_row attempts_told (tables a) (tables b) was is (attempts_kept e a ranged accepted kept))
