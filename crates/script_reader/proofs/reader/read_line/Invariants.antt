use Rattle.std.proofs.Common.{ℕ, false, None}
use Rattle.script_reader.specs.Readers.{DoMore}
use Rattle.script_reader.proofs.reader.read_line.Given as goal

-- what was done before is still done, and more that was answered of the schedule
abbrev pub invariant-loop-command : goal.invariant-loop-command
invariant-loop-command g l = (times : ℕ) × DoMore g.R.Read.remaining g.W.Write.contents g.F.Sources.gives times l.fn.schedule.content None false false l.fn.commands l.fn.answers l.fn.sources l.commands l.answers l.sources
