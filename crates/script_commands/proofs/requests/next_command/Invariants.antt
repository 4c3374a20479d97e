use Rattle.std.proofs.Common.{◌≡◌, ℕ, List, Some}
use Rattle.script_commands.specs.Commands.{commands_in}
use Rattle.script_commands.proofs.RequestLemmas.{Left}
use Rattle.script_commands.proofs.requests.next_command.Given as goal

-- the commands are those of what is left
abbrev pub invariant-loop-line : goal.invariant-loop-line
invariant-loop-line g l = (bytes : List ℕ) → g.R.Read.remaining l.fn.input ≡ Some bytes
    → Left (g.R.Read.remaining l.input) (commands_in bytes)
