use Rattle.std.proofs.Common.{take}
use Rattle.std.specs.List.{flat_map}
use Rattle.std.specs.Io.KnownBytes.{Appends}
use Rattle.answer_lines.specs.Answers.{made_line}
use Rattle.answer_lines.proofs.answers.put_made.Given as goal

abbrev pub invariant-loop-id : goal.invariant-loop-id
invariant-loop-id g l = Appends (g.W.Write.contents l.fn.output) (g.W.Write.contents l.output) (flat_map made_line (take l.id-index l.made))
