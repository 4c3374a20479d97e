-- What a load of rows does to a database, and which rows a load can read.
use Rattle.std.specs.Prelude.{◌≡◌, Bool, ℤ, false, ◌&&◌, List, [], ◌∷◌, pos, Result, OnOk, IfErr}
use Rattle.std.specs.Ordering.{int_eq}
use Rattle.std.specs.List.{AllByRecursion}
use Rattle.sqlite.specs.Effect.{Database}
use Rattle.sqlite.specs.Order.{Row}
use Rattle.sqlite.specs.State.{State, HasCleanDisk}
use Rattle.record_rows.specs.Rows.{Rows, MetaRow}
use Rattle.record_rows.specs.declared.tables.Table.{Table}
use Rattle.record_rules.specs.Cells.{Cell, AreText, AreTexts, cells_in}
use Rattle.record_tables.specs.Forms.{values_of}
use Rattle.record_tables.specs.Holds.{Stores}
use Rattle.record_tables.specs.Puts.{take_of}
use Rattle.record_tables.specs.declared.faults.LoadFault.{LoadFault}
use Rattle.record_tables.specs.declared.faults.LoadFault.TheVariants.{NotOurs}

-- `meta` is one row, of this version
abbrev pub is_version : ℤ → List MetaRow → Bool
is_version v [] = false
is_version v (m ∷ []) = int_eq m.one (pos 1) && int_eq m.version v
is_version v (m ∷ n ∷ ms) = false

-- a call of which nothing is said
abbrev pub Anyhow : Database → Database → Type 0
Anyhow old new = Unit {0}

-- a database that stores a record is as it was
abbrev pub Stays : Database → Database → Type 0
Stays old new = (rows : Rows) → Stores old rows → new ≡ old

-- the values are those of a row of the table whose rows have these cells
abbrev pub IsRowOf : {X : Type 0} → (X → List Cell) → Row → Type 0
IsRowOf {X} cells row = (x : X) × AreText (cells x) × (row ≡ values_of (cells x))

-- a table was read into rows, or why it was not
pub record Loads {A : Type 0} (table : Table) (old new : State) (was now : Rows) (result : Result A LoadFault) : Type 0 where
  pub list : HasCleanDisk new → OnOk result ((stored : Rows) → Stores old.now stored → now ≡ take_of table stored was)
  pub texts : OnOk result (AreTexts was → AreTexts now)
  pub fault : HasCleanDisk new → IfErr result (λ e. e ≡ NotOurs → (stored : Rows) → Stores old.now stored → ¬ AllByRecursion AreText (cells_in table stored))
