use Rattle.std.proofs.Common.{◌≡◌, map, string_bytes, take}
use Rattle.dagsched.proofs.help_of.Given as goal

abbrev pub invariant-loop-word : goal.invariant-loop-word
invariant-loop-word l = map string_bytes l.asked.items ≡ map string_bytes (take l.word-index l.command)
