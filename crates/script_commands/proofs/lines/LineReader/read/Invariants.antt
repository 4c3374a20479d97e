use Rattle.std.proofs.Common.{◌≡◌, ℕ, List, Some}
use Rattle.script_commands.specs.Lines.{next_number}
use Rattle.script_commands.proofs.LineLemmas.{Reading}
use Rattle.script_commands.proofs.lines.LineReader.read.Given as goal

-- the bytes that were read begin a line, of which the reader keeps what it may; the line has its number
abbrev pub invariant-loop-length : goal.invariant-loop-length
invariant-loop-length g l = record {
  reading : (bytes : List ℕ) → g.R.Read.remaining l.fn.input ≡ Some bytes → Reading bytes (g.R.Read.remaining l.input) l.self.line l.length l.is_blank;
  number : l.self.number ≡ next_number l.fn.self.number;
}
