use Rattle.std.proofs.Common.{codes}
use Rattle.clap.specs.Words.{app_of}
use Rattle.word_app.specs.App as spec
use Rattle.word_app.proofs.AddLemmas.{takes}
use Rattle.word_app.proofs.repairs.backfill_command.Goals as goal

pub returns-clause-app : goal.returns-clause-app
returns-clause-app c =
    takes app_of c.spanned-command.result c.with_argument.result (spec.spanned (codes "backfill")) c.flag-reset.ensures.rule c.spanned-command.ensures.app c.with_argument.ensures.app
