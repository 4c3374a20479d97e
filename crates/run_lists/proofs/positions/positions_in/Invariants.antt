use Rattle.std.proofs.Common.{◌≡◌, ◌++◌, ◌≤◌, drop, length, vec_capacity}
use Rattle.run_lists.specs.Positions.{positions_from, positions_where, stands}
use Rattle.run_lists.proofs.positions.positions_in.Given as goal

abbrev pub invariant-loop-position : goal.invariant-loop-position
invariant-loop-position l =
    (l.positions.items ++ positions_from (stands l.fn.standing) l.position (drop l.position l.fn.runs) ≡ positions_where (stands l.fn.standing) l.fn.runs)
    × (length l.fn.runs ≤ vec_capacity l.positions)
