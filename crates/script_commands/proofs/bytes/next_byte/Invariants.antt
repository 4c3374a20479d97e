use Rattle.std.proofs.Common.{◌≡◌, ℕ, List, length, Some}
use Rattle.script_commands.proofs.bytes.next_byte.Given as goal

-- an interrupted read takes nothing
abbrev pub invariant-loop : goal.invariant-loop
invariant-loop g l =
    (length l.buffer ≡ 1)
    × ((bytes : List ℕ) → g.R.Read.remaining l.fn.input ≡ Some bytes → g.R.Read.remaining l.input ≡ Some bytes)
