use Rattle.script_commands.proofs.TextLemmas.{gathers-good}
use Rattle.script_commands.proofs.graph_texts.Gathered.with_line.Goals as goal

pub returns-in-Some : goal.returns-in-Some
returns-in-Some c = λ text h. gathers-good text c.args.line.now _ _ c.in-Some.ensures.0 c.in-Some.ensures.1 (c.with_text.ensures text h)
