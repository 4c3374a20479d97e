use Rattle.std.proofs.Common.{take}
use Rattle.std.specs.List.{flat_map}
use Rattle.std.specs.Io.KnownBytes.{Appends}
use Rattle.answer_lines.specs.Jobs.{job_line}
use Rattle.answer_lines.proofs.jobs.put_jobs.Given as goal

abbrev pub invariant-loop-job : goal.invariant-loop-job
invariant-loop-job g l = Appends (g.W.Write.contents l.fn.output) (g.W.Write.contents l.output) (flat_map job_line (take l.job-index l.jobs))
