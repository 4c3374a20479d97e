use Rattle.std.proofs.Common.{codes}
use Rattle.clap.specs.Words.{app_of, with_rule}
use Rattle.word_app.specs.App as spec
use Rattle.word_app.specs.Rules.{word}
use Rattle.word_app.proofs.AddLemmas.{takes}
use Rattle.word_app.proofs.commands.of_instance.Goals as goal

pub returns-clause-app : goal.returns-clause-app
returns-clause-app c =
    takes app_of c.with_argument-command.result c.with_argument.result (with_rule (spec.of_dag c.args.name.now) (word (codes "logical"))) c.word-task.ensures.rule
    (takes app_of c.of_dag-command.result c.with_argument-command.result (spec.of_dag c.args.name.now) c.word-logical.ensures.rule c.of_dag-command.ensures.app c.with_argument-command.ensures.app)
    c.with_argument.ensures.app
