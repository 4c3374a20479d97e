use Rattle.std.proofs.Common.{refl, codes, Ok}
use Rattle.clap.specs.Words.{app_of, with_subcommand}
use Rattle.word_app.specs.App as spec
use Rattle.word_app.proofs.AddLemmas.{holds}
use Rattle.word_app.proofs.program.with_dags.Goals as goal

pub returns-clause-app : goal.returns-clause-app
returns-clause-app c =
    holds app_of c.with_command-command-2.result c.of_dag-unpause.result c.with_command.result (with_subcommand (with_subcommand (app_of c.args.command) (spec.of_dag (codes "trigger")).top) (spec.of_dag (codes "pause")).top) (spec.of_dag (codes "unpause"))
    (holds app_of c.with_command-command.result c.of_dag-pause.result c.with_command-command-2.result (with_subcommand (app_of c.args.command) (spec.of_dag (codes "trigger")).top) (spec.of_dag (codes "pause"))
    (holds app_of (Ok c.args.command) c.of_dag-trigger.result c.with_command-command.result (app_of c.args.command) (spec.of_dag (codes "trigger")) refl c.of_dag-trigger.ensures.app c.with_command-command.ensures.app)
    c.of_dag-pause.ensures.app c.with_command-command-2.ensures.app)
    c.of_dag-unpause.ensures.app c.with_command.ensures.app
