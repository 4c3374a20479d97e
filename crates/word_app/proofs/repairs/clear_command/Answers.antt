use Rattle.std.proofs.Common.{codes}
use Rattle.clap.specs.Words.{app_of, with_rule}
use Rattle.word_app.specs.App as spec
use Rattle.word_app.specs.Rules.{flag}
use Rattle.word_app.proofs.AddLemmas.{takes}
use Rattle.word_app.proofs.repairs.clear_command.Goals as goal

pub returns-clause-app : goal.returns-clause-app
returns-clause-app c =
    takes app_of c.with_argument-command.result c.with_argument.result (with_rule spec.clear_span (flag (codes "downstream"))) c.flag-only_failed.ensures.rule
    (takes app_of c.clear_span-command.result c.with_argument-command.result spec.clear_span c.flag-downstream.ensures.rule c.clear_span-command.ensures.app c.with_argument-command.ensures.app)
    c.with_argument.ensures.app
