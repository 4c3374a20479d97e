use Rattle.std.proofs.Common.{◌≡◌, ℕ, List, [], Some}
use Rattle.script_commands.specs.Lines.{lines_of}
use Rattle.script_commands.specs.Commands.{commands_from}
use Rattle.script_commands.specs.Commands.Place.{Inside}
use Rattle.script_commands.proofs.TextLemmas.{Stands}
use Rattle.script_commands.proofs.graph_texts.read_text.Given as goal

abbrev pub invariant-loop-line : goal.invariant-loop-line
invariant-loop-line g l = (bytes : List ℕ) → g.R.Read.remaining l.fn.input ≡ Some bytes
    → Stands l.fn.taking (g.R.Read.remaining l.input) l.gathered (commands_from (Inside l.fn.taking (Some [])) (lines_of bytes))
