use Rattle.std.proofs.lemmas.Str.{IsUtf8-from_is_utf8, is_utf8-from_IsUtf8}
use Rattle.std.proofs.lemmas.Bool.{false_from_ne_true}
use Rattle.script_commands.proofs.AskLemmas.{good-text, bad-text}
use Rattle.script_commands.proofs.requests.text_of.Goals as goal

pub returns-in-Ok : goal.returns-in-Ok
returns-in-Ok c = (good-text c.args.line.now c.requires (is_utf8-from_IsUtf8 _ c.in-Ok.ensures.cases.1), c.in-Ok.ensures.cases.0)

pub returns-in-Err : goal.returns-in-Err
returns-in-Err c = bad-text c.args.line.now (false_from_ne_true _ (λ e. c.in-Err.ensures.cases.0 (IsUtf8-from_is_utf8 _ e)))
