use Rattle.std.proofs.Common.{◌∙◌, ap, sym}
use Rattle.script_commands.specs.Commands.{is_comment}
use Rattle.script_commands.proofs.AskLemmas.{comment-take, bad-long, asked-comment, asked-blank, asked-bad}
use Rattle.script_commands.proofs.requests.meaning_of_long.Goals as goal

pub returns-then-is_comment-clause-is : goal.returns-then-is_comment-clause-is
returns-then-is_comment-clause-is c = λ line long start blank.
    asked-comment line (sym (comment-take 65535 line) ∙ (ap is_comment (sym start) ∙ sym c.is_comment.ensures ∙ c.if-is_comment.true))

pub returns-then-is_blank-clause-is : goal.returns-then-is_blank-clause-is
returns-then-is_blank-clause-is c = λ line long start blank. asked-blank line (sym blank ∙ c.if-is_blank.true)

pub returns-clause-is : goal.returns-clause-is
returns-clause-is c = λ line long start blank.
    asked-bad line (sym (comment-take 65535 line) ∙ (ap is_comment (sym start) ∙ sym c.is_comment.ensures ∙ c.if-is_comment.false))
    (sym blank ∙ c.if-is_blank.false) (bad-long line long)
