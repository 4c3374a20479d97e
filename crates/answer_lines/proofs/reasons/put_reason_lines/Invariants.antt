use Rattle.std.proofs.Common.{take}
use Rattle.std.specs.List.{flat_map}
use Rattle.std.specs.Io.KnownBytes.{Appends}
use Rattle.answer_lines.specs.Reasons.{reason_line}
use Rattle.answer_lines.proofs.reasons.put_reason_lines.Given as goal

abbrev pub invariant-loop-reason : goal.invariant-loop-reason
invariant-loop-reason g l = Appends (g.W.Write.contents l.fn.output) (g.W.Write.contents l.output) (flat_map reason_line (take l.reason-index l.reasons))
