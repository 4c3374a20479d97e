use Rattle.std.proofs.Common.{codes}
use Rattle.clap.specs.Words.{app_of}
use Rattle.word_app.specs.App as spec
use Rattle.word_app.proofs.AddLemmas.{takes}
use Rattle.word_app.proofs.repairs.mark_command.Goals as goal

pub returns-clause-app : goal.returns-clause-app
returns-clause-app c =
    takes app_of c.of_instance-command.result c.with_argument.result (spec.of_instance (codes "mark")) c.word-state.ensures.rule c.of_instance-command.ensures.app c.with_argument.ensures.app
