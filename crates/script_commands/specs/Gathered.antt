-- What is gathered of a graph's text while its lines are read.
use Rattle.std.specs.Prelude.{◌≡◌, ℕ, List, Option, Some, None, string_bytes}
use Rattle.script_commands.specs.declared.graph_texts.Gathered.{Gathered}
use Rattle.script_commands.specs.declared.graph_texts.Gathered.TheVariants as gathered

-- it stands for the text so far: the text itself, or that a line was bad, or that there was no memory for a text
abbrev pub Gathers : Option (List ℕ) → Gathered → Type 0
Gathers text (gathered.Text t) = text ≡ Some (string_bytes t)
Gathers text gathered.BadLine = text ≡ None
Gathers text gathered.Memory = (t : List ℕ) × (text ≡ Some t)
