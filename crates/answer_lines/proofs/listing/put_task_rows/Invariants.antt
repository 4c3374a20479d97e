use Rattle.std.proofs.Common.{ℕ, List, Option}
use Rattle.std.specs.Io.KnownBytes.{Appends}
use Rattle.std.specs.List.{flat_map}
use Rattle.answer_lines.specs.Tasks.{task_line}
use Rattle.explain.specs.sched_core.Views.{all_rows}
use Rattle.answer_lines.proofs.listing.put_task_rows.Given as goal

-- who appends the lines of the rows that are left has appended all
abbrev pub invariant-loop-row : goal.invariant-loop-row
invariant-loop-row g l = (end : Option (List ℕ)) → Appends (g.W.Write.contents l.output) end (flat_map task_line l.row-iterator)
    → Appends (g.W.Write.contents l.fn.output) end (flat_map task_line (all_rows l.schedule.content))
