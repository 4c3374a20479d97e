use Rattle.std.proofs.Common.{ℕ, List, Option}
use Rattle.std.specs.Io.KnownBytes.{Appends}
use Rattle.std.specs.List.{flat_map}
use Rattle.answer_lines.specs.Pools.{pool_line}
use Rattle.explain.specs.sched_core.Views.{pool_rows}
use Rattle.answer_lines.proofs.listing.put_pool_rows.Given as goal

-- who appends the lines of the rows that are left has appended all
abbrev pub invariant-loop-row : goal.invariant-loop-row
invariant-loop-row g l = (end : Option (List ℕ)) → Appends (g.W.Write.contents l.output) end (flat_map pool_line l.row-iterator)
    → Appends (g.W.Write.contents l.fn.output) end (flat_map pool_line (pool_rows l.schedule.content))
