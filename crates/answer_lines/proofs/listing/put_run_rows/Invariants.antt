use Rattle.std.proofs.Common.{ℕ, List, Option}
use Rattle.std.specs.Io.KnownBytes.{Appends}
use Rattle.std.specs.List.{flat_map}
use Rattle.answer_lines.specs.Runs.{run_line}
use Rattle.answer_lines.proofs.listing.put_run_rows.Given as goal

-- who appends the lines of the runs that are left has appended all
abbrev pub invariant-loop-run : goal.invariant-loop-run
invariant-loop-run g l = (end : Option (List ℕ)) → Appends (g.W.Write.contents l.output) end (flat_map run_line l.run-iterator)
    → Appends (g.W.Write.contents l.fn.output) end (flat_map run_line l.schedule.content.runs)
