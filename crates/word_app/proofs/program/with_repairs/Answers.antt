use Rattle.std.proofs.Common.{refl, Ok}
use Rattle.clap.specs.Words.{App, app_of, with_subcommand}
use Rattle.word_app.specs.App as spec
use Rattle.word_app.proofs.AddLemmas.{holds}
use Rattle.word_app.proofs.program.with_repairs.Goals as goal

pub returns-clause-app : goal.returns-clause-app
returns-clause-app c =
    let one : App = with_subcommand (app_of c.args.command) spec.backfill.top in
    let two : App = with_subcommand one spec.clear.top in
    holds app_of c.with_command-command-3.result c.resize_command.result c.with_command.result (with_subcommand two spec.mark.top) spec.resize
    (holds app_of c.with_command-command-2.result c.mark_command.result c.with_command-command-3.result two spec.mark
    (holds app_of c.with_command-command.result c.clear_command.result c.with_command-command-2.result one spec.clear
    (holds app_of (Ok c.args.command) c.backfill_command.result c.with_command-command.result (app_of c.args.command) spec.backfill refl c.backfill_command.ensures.app c.with_command-command.ensures.app)
    c.clear_command.ensures.app c.with_command-command-2.ensures.app)
    c.mark_command.ensures.app c.with_command-command-3.ensures.app)
    c.resize_command.ensures.app c.with_command.ensures.app
