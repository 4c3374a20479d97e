use Rattle.std.proofs.Common.{Option, List, ℕ, ap}
use Rattle.script_commands.specs.Commands.{with_newline}
use Rattle.script_commands.proofs.graph_texts.Gathered.with_text.Goals as goal

pub returns-in-Err : goal.returns-in-Err
returns-in-Err c = λ text h.
    let same = rw c.in-Text.is at h in (_, ap (λ (t : Option (List ℕ)). with_newline t c.args.line.now) same)

pub returns-in-Memory : goal.returns-in-Memory
returns-in-Memory c = λ text h.
    let same = rw c.in-Memory.is at h in (_, ap (λ (t : Option (List ℕ)). with_newline t c.args.line.now) same.1)
