-- The tests of equal rows say that rows are equal.
use Rattle.std.proofs.Common.{◌≡◌, refl, sym, ap, ap₂, ℕ, ℤ, List, [], ◌∷◌, true, Option, Some, None, true≢false}
use Rattle.record_rows.specs.Rows.{MetaRow, PoolRow, DagRow, DagLimitRow, RunRow, InstanceRow, AttemptRow}
use Rattle.sched_laws.proofs.sched_state.NameLemmas.{same_is}
use Rattle.sched_laws.proofs.sched_state.OrderLemmas.{and_left, and_right}
use Rattle.record_rules.specs.Between.{Tells}
use Rattle.record_rules.specs.Cells.{Cell, Number, Words, Perhaps, same_if, same_cell, same_cells, meta_cells, pool_cells, dag_cells, dag_limit_cells, run_cells, instance_cells, attempt_cells}
use Rattle.record_rules.specs.Changes.{same_meta_row, same_pool_row, same_dag_row, same_dag_limit_row, same_run_row, same_instance_row, same_attempt_row}
use Rattle.record_rules.proofs.NumberLemmas.{same_number}

-- ---- cells
if_told : (o p : Option ℤ) → same_if o p ≡ true → o ≡ p
if_told None None e = refl
if_told None (Some y) e = absurd (true≢false (sym e))
if_told (Some x) None e = absurd (true≢false (sym e))
if_told (Some x) (Some y) e = ap (λ (z : ℤ). let o : Option ℤ = Some z in o) (same_number x y e)

cell_told : (x y : Cell) → same_cell x y ≡ true → x ≡ y
cell_told (Number x) (Number y) e = ap Number (same_number x y e)
cell_told (Words x) (Words y) e = ap Words (same_is x y e)
cell_told (Perhaps x) (Perhaps y) e = ap Perhaps (if_told x y e)
cell_told (Number x) (Words y) e = absurd (true≢false (sym e))
cell_told (Number x) (Perhaps y) e = absurd (true≢false (sym e))
cell_told (Words x) (Number y) e = absurd (true≢false (sym e))
cell_told (Words x) (Perhaps y) e = absurd (true≢false (sym e))
cell_told (Perhaps x) (Number y) e = absurd (true≢false (sym e))
cell_told (Perhaps x) (Words y) e = absurd (true≢false (sym e))

cells_told : (xs ys : List Cell) → same_cells xs ys ≡ true → xs ≡ ys
cells_told [] [] e = refl
cells_told [] (y ∷ ys) e = absurd (true≢false (sym e))
cells_told (x ∷ xs) [] e = absurd (true≢false (sym e))
cells_told (x ∷ []) (y ∷ []) e = ap (λ (c : Cell). c ∷ []) (cell_told x y e)
cells_told (x ∷ []) (y ∷ v ∷ ys) e = absurd (true≢false (sym e))
cells_told (x ∷ u ∷ xs) (y ∷ []) e = absurd (true≢false (sym e))
cells_told (x ∷ u ∷ xs) (y ∷ v ∷ ys) e =
    ap₂ (λ (c : Cell) cs. c ∷ cs) (cell_told x y (and_left _ _ e)) (cells_told (u ∷ xs) (v ∷ ys) (and_right (same_cell x y) _ e))

-- ---- rows whose cells are equal are equal
pub meta_apart : (x y : MetaRow) → meta_cells x ≡ meta_cells y → x ≡ y
meta_apart x y h =
    let one_same : x.one ≡ y.one = cc in
    let version_same : x.version ≡ y.version = cc in
    let now_same : x.now ≡ y.now = cc in
    let next_serial_same : x.next_serial ≡ y.next_serial = cc in
    let lanes_same : x.lanes ≡ y.lanes = cc in
    λ i. record { one = one_same i; version = version_same i; now = now_same i; next_serial = next_serial_same i; lanes = lanes_same i }

pub pool_apart : (x y : PoolRow) → pool_cells x ≡ pool_cells y → x ≡ y
pool_apart x y h =
    let name_same : x.name ≡ y.name = cc in
    let size_same : x.size ≡ y.size = cc in
    λ i. record { name = name_same i; size = size_same i }

pub dag_apart : (x y : DagRow) → dag_cells x ≡ dag_cells y → x ≡ y
dag_apart x y h =
    let dag_id_same : x.dag_id ≡ y.dag_id = cc in
    let body_same : x.body ≡ y.body = cc in
    let paused_same : x.paused ≡ y.paused = cc in
    λ i. record { dag_id = dag_id_same i; body = body_same i; paused = paused_same i }

pub dag_limit_apart : (x y : DagLimitRow) → dag_limit_cells x ≡ dag_limit_cells y → x ≡ y
dag_limit_apart x y h =
    let dag_id_same : x.dag_id ≡ y.dag_id = cc in
    let most_same : x.max_active_tasks ≡ y.max_active_tasks = cc in
    λ i. record { dag_id = dag_id_same i; max_active_tasks = most_same i }

pub run_apart : (x y : RunRow) → run_cells x ≡ run_cells y → x ≡ y
run_apart x y h =
    let dag_id_same : x.dag_id ≡ y.dag_id = cc in
    let logical_same : x.logical ≡ y.logical = cc in
    let data_start_same : x.data_start ≡ y.data_start = cc in
    let data_end_same : x.data_end ≡ y.data_end = cc in
    let kind_same : x.kind ≡ y.kind = cc in
    let phase_same : x.phase ≡ y.phase = cc in
    λ i. record { dag_id = dag_id_same i; logical = logical_same i; data_start = data_start_same i; data_end = data_end_same i; kind = kind_same i; phase = phase_same i }

pub instance_apart : (x y : InstanceRow) → instance_cells x ≡ instance_cells y → x ≡ y
instance_apart x y h =
    let dag_id_same : x.dag_id ≡ y.dag_id = cc in
    let logical_same : x.logical ≡ y.logical = cc in
    let task_id_same : x.task_id ≡ y.task_id = cc in
    let verdict_same : x.verdict ≡ y.verdict = cc in
    let since_same : x.since ≡ y.since = cc in
    λ i. record { dag_id = dag_id_same i; logical = logical_same i; task_id = task_id_same i; verdict = verdict_same i; since = since_same i }

pub attempt_apart : (x y : AttemptRow) → attempt_cells x ≡ attempt_cells y → x ≡ y
attempt_apart x y h =
    let serial_same : x.serial ≡ y.serial = cc in
    let dag_id_same : x.dag_id ≡ y.dag_id = cc in
    let logical_same : x.logical ≡ y.logical = cc in
    let task_id_same : x.task_id ≡ y.task_id = cc in
    let try_number_same : x.try_number ≡ y.try_number = cc in
    let slots_same : x.slots ≡ y.slots = cc in
    let started_same : x.started ≡ y.started = cc in
    let ended_same : x.ended ≡ y.ended = cc in
    let outcome_same : x.outcome ≡ y.outcome = cc in
    λ i. record { serial = serial_same i; dag_id = dag_id_same i; logical = logical_same i; task_id = task_id_same i; try_number = try_number_same i; slots = slots_same i; started = started_same i; ended = ended_same i; outcome = outcome_same i }

-- ---- the tests
pub metas_told : Tells same_meta_row
metas_told x y e = meta_apart x y (cells_told (meta_cells x) (meta_cells y) e)

pub pools_told : Tells same_pool_row
pools_told x y e = pool_apart x y (cells_told (pool_cells x) (pool_cells y) e)

pub dags_told : Tells same_dag_row
dags_told x y e = dag_apart x y (cells_told (dag_cells x) (dag_cells y) e)

pub limits_told : Tells same_dag_limit_row
limits_told x y e = dag_limit_apart x y (cells_told (dag_limit_cells x) (dag_limit_cells y) e)

pub runs_told : Tells same_run_row
runs_told x y e = run_apart x y (cells_told (run_cells x) (run_cells y) e)

pub instances_told : Tells same_instance_row
instances_told x y e = instance_apart x y (cells_told (instance_cells x) (instance_cells y) e)

pub attempts_told : Tells same_attempt_row
attempts_told x y e = attempt_apart x y (cells_told (attempt_cells x) (attempt_cells y) e)
