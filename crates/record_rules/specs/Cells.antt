-- The rows of the record as lists of cells, one for each column, and when two rows are the same.
-- restates: this project's own profile
use Rattle.std.specs.Prelude.{ℕ, ℤ, Bool, true, false, ◌&&◌, List, [], ◌∷◌, map, Option, Some, None, IsUtf8}
use Rattle.std.specs.List.{AllByRecursion}
use Rattle.std.specs.Ordering.{int_eq}
use Rattle.record_rows.specs.declared.tables.Table.{Table}
use Rattle.record_rows.specs.declared.tables.Table.TheVariants.{Meta, Pool, Dag, DagLimit, Run, Instance, Attempt}
use Rattle.record_rows.specs.Rows.{Rows, MetaRow, PoolRow, DagRow, DagLimitRow, RunRow, InstanceRow, AttemptRow}
use Rattle.sched_laws.specs.sched_state.Lists.{same}

-- the value of a column
pub data Cell : Type 0 where
  Number : ℤ → Cell
  Words : List ℕ → Cell
  -- it may be NULL
  Perhaps : Option ℤ → Cell

-- ---- the cells of a row of each table, in the order of its columns
abbrev pub meta_cells : MetaRow → List Cell
meta_cells m = Number m.one ∷ Number m.version ∷ Number m.now ∷ Number m.next_serial ∷ Number m.lanes ∷ []

abbrev pub pool_cells : PoolRow → List Cell
pool_cells p = Words p.name ∷ Number p.size ∷ []

abbrev pub dag_cells : DagRow → List Cell
dag_cells d = Words d.dag_id ∷ Words d.body ∷ Number d.paused ∷ []

abbrev pub dag_limit_cells : DagLimitRow → List Cell
dag_limit_cells x = Words x.dag_id ∷ Number x.max_active_tasks ∷ []

abbrev pub run_cells : RunRow → List Cell
run_cells r = Words r.dag_id ∷ Number r.logical ∷ Number r.data_start ∷ Number r.data_end ∷ Number r.kind ∷ Number r.phase ∷ []

abbrev pub instance_cells : InstanceRow → List Cell
instance_cells i = Words i.dag_id ∷ Number i.logical ∷ Words i.task_id ∷ Number i.verdict ∷ Number i.since ∷ []

abbrev pub attempt_cells : AttemptRow → List Cell
attempt_cells a =
    Number a.serial ∷ Words a.dag_id ∷ Number a.logical ∷ Words a.task_id ∷ Number a.try_number ∷ Number a.slots ∷ Perhaps a.started ∷ Perhaps a.ended ∷ Perhaps a.outcome ∷ []

-- the rows of a table, by their cells
abbrev pub cells_in : Table → Rows → List (List Cell)
cells_in Meta rows = map meta_cells rows.metas
cells_in Pool rows = map pool_cells rows.pools
cells_in Dag rows = map dag_cells rows.dags
cells_in DagLimit rows = map dag_limit_cells rows.dag_limits
cells_in Run rows = map run_cells rows.runs
cells_in Instance rows = map instance_cells rows.instances
cells_in Attempt rows = map attempt_cells rows.attempts

-- ---- two rows are the same in all columns
-- both are there and equal, or neither is there
abbrev pub same_if : Option ℤ → Option ℤ → Bool
same_if None None = true
same_if None (Some y) = false
same_if (Some x) None = false
same_if (Some x) (Some y) = int_eq x y

-- two cells of one kind have one value
abbrev pub same_cell : Cell → Cell → Bool
same_cell (Number x) (Number y) = int_eq x y
same_cell (Words x) (Words y) = same x y
same_cell (Perhaps x) (Perhaps y) = same_if x y
same_cell (Number x) (Words y) = false
same_cell (Number x) (Perhaps y) = false
same_cell (Words x) (Number y) = false
same_cell (Words x) (Perhaps y) = false
same_cell (Perhaps x) (Number y) = false
same_cell (Perhaps x) (Words y) = false

-- they are as many, and the same one by one
abbrev pub same_cells : List Cell → List Cell → Bool
same_cells [] [] = true
same_cells [] (y ∷ ys) = false
same_cells (x ∷ xs) [] = false
same_cells (x ∷ []) (y ∷ []) = same_cell x y
same_cells (x ∷ []) (y ∷ v ∷ ys) = false
same_cells (x ∷ u ∷ xs) (y ∷ []) = false
same_cells (x ∷ u ∷ xs) (y ∷ v ∷ ys) = same_cell x y && same_cells (u ∷ xs) (v ∷ ys)

-- ---- the texts of a row are UTF-8
abbrev pub IsText : Cell → Type 0
IsText (Words t) = IsUtf8 t
IsText (Number n) = Unit {0}
IsText (Perhaps o) = Unit {0}

abbrev pub AreText : List Cell → Type 0
AreText = AllByRecursion IsText

-- all texts of a record are UTF-8
abbrev pub AreTexts : Rows → Type 0
AreTexts rows = (t : Table) → AllByRecursion AreText (cells_in t rows)
