-- Runs over the runs that are there, and what one edit more does.
use Rattle.std.specs.Prelude.{◌≡◌, ℕ, List, Some, slice_get}
use Rattle.std.specs.BTreeSet.{insert_key}
use Rattle.std.specs.List.{insert}
use Rattle.std.specs.Ordering.{nat_cmp}
use Rattle.instance_machine.specs.Instances.{InstanceValue}
use Rattle.sched_state.specs.declared.runs.Run.{Run}
use Rattle.run_lists.specs.declared.edits.Edit.{Edit}
use Rattle.run_lists.specs.Edits.{AreEditsOf, AreBelow, IsEditOf, edited, positions_in}
use Rattle.run_lists.specs.Marks.{Mark, Over, touched_in}
use Rattle.run_lists.specs.Touched.{touched_with}

-- the runs that are there, those that are made of them, and the positions of the touched ones among these: they may be changed
pub record OverlayValue : Type 0 where
  pub base : List Run
  pub runs : List Run
  pub touched : List ℕ

-- these are the positions of the runs that were changed or added, in their order; all others are as they were
pub record AreAllTouched (ns : List ℕ) (a b : List Run) : Type 0 where
  pub marks : List Mark
  pub over : Over marks a b
  pub positions : ns ≡ touched_in marks

-- it is the instance at the place of the run at the position
abbrev pub IsInstanceAt : ℕ → ℕ → InstanceValue → List Run → Type 0
IsInstanceAt n p i rs = (r : Run) → slice_get rs n ≡ Some r → slice_get r.instances p ≡ Some i

-- the run at the position is written by the edit at the place, all runs are as they were, and the position is touched too
pub record IsOwned (position place : ℕ) (old new : List Edit) (rs : List Run) : Type 0 where
  pub edits : AreEditsOf rs new
  pub below : AreBelow place position new
  pub there : IsEditOf place position new
  pub same : edited new rs ≡ edited old rs
  pub positions : positions_in new ≡ insert_key nat_cmp (positions_in old) position

-- the run is put in at the position, which is touched too
pub record IsAdded (position : ℕ) (r : Run) (old new : List Edit) (rs : List Run) : Type 0 where
  pub edits : AreEditsOf rs new
  pub runs : edited new rs ≡ insert (edited old rs) position r
  pub positions : positions_in new ≡ touched_with position (positions_in old)
