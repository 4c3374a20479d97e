use Rattle.std.proofs.Common.{codes}
use Rattle.clap.specs.Words.{app_of, with_rule}
use Rattle.word_app.specs.App as spec
use Rattle.word_app.specs.Rules.{option}
use Rattle.word_app.proofs.AddLemmas.{takes}
use Rattle.word_app.proofs.repairs.clear_span.Goals as goal

pub returns-clause-app : goal.returns-clause-app
returns-clause-app c =
    takes app_of c.with_argument-command.result c.with_argument.result (with_rule (spec.spanned (codes "clear")) (option (codes "task"))) c.flag-upstream.ensures.rule
    (takes app_of c.spanned-command.result c.with_argument-command.result (spec.spanned (codes "clear")) c.option-task.ensures.rule c.spanned-command.ensures.app c.with_argument-command.ensures.app)
    c.with_argument.ensures.app
