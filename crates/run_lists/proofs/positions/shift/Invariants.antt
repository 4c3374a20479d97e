use Rattle.std.proofs.Common.{◌≡◌, ◌≤◌, vec_capacity, vec_len}
use Rattle.run_lists.proofs.ShiftLemmas.{AreSmallFrom, bumped_from}
use Rattle.run_lists.specs.Touched.{shifted_from}
use Rattle.run_lists.proofs.positions.shift.Given as goal

abbrev pub invariant-loop-index : goal.invariant-loop-index
invariant-loop-index l =
    (bumped_from l.index l.positions.items ≡ shifted_from l.fn.position l.fn.positions.items)
    × (AreSmallFrom l.index l.positions.items × ((vec_capacity l.fn.positions ≤ vec_capacity l.positions) × (vec_len l.positions ≡ vec_len l.fn.positions)))
