use Rattle.std.proofs.Common.{◌≡◌, ◌≤◌, drop, length}
use Rattle.run_lists.specs.Edits.{edited}
use Rattle.run_lists.specs.Positions.{positions_where, stands}
use Rattle.run_lists.specs.declared.positions.Standing.TheVariants.{Running}
use Rattle.run_lists.proofs.overlays.Overlay.running.Given as goal

abbrev pub decreases-loop-place : goal.decreases-loop-place
decreases-loop-place l = l.place

abbrev pub invariant-loop-place : goal.invariant-loop-place
invariant-loop-place l =
    (l.positions.items ≡ positions_where (stands Running) (edited (drop l.place l.self-inside.edits.items) l.self-inside.base.now.runs)) × (l.place ≤ length l.self-inside.edits.items)
