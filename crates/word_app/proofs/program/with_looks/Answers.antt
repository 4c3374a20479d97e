use Rattle.clap.specs.Words.{app_of, with_subcommand}
use Rattle.word_app.specs.App as spec
use Rattle.word_app.proofs.AddLemmas.{holds}
use Rattle.word_app.proofs.program.with_looks.Goals as goal

pub returns-clause-app : goal.returns-clause-app
returns-clause-app c =
    holds app_of c.with_command-command-2.result c.explain_command.result c.with_command.result (with_subcommand (with_subcommand spec.start spec.run.top) (spec.list c.args.names).top) spec.explain
    (holds app_of c.with_command-command.result c.list_command.result c.with_command-command-2.result (with_subcommand spec.start spec.run.top) (spec.list c.args.names)
    (holds app_of c.start.result c.run_command.result c.with_command-command.result spec.start spec.run c.start.ensures.app c.run_command.ensures.app c.with_command-command.ensures.app)
    c.list_command.ensures.app c.with_command-command-2.ensures.app)
    c.explain_command.ensures.app c.with_command.ensures.app
