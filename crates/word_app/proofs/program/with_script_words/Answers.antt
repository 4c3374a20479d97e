use Rattle.std.proofs.Common.{refl, codes, Ok}
use Rattle.clap.specs.Words.{app_of, with_subcommand}
use Rattle.word_app.specs.App as spec
use Rattle.word_app.proofs.AddLemmas.{holds}
use Rattle.word_app.proofs.program.with_script_words.Goals as goal

pub returns-clause-app : goal.returns-clause-app
returns-clause-app c =
    holds app_of c.with_command-command-3.result c.drain_command.result c.with_command.result (with_subcommand (with_subcommand (with_subcommand (app_of c.args.command) (spec.of_path (codes "load")).top) (spec.of_path (codes "replace")).top) spec.tick.top) spec.drain
    (holds app_of c.with_command-command-2.result c.tick_command.result c.with_command-command-3.result (with_subcommand (with_subcommand (app_of c.args.command) (spec.of_path (codes "load")).top) (spec.of_path (codes "replace")).top) spec.tick
    (holds app_of c.with_command-command.result c.of_path-replace.result c.with_command-command-2.result (with_subcommand (app_of c.args.command) (spec.of_path (codes "load")).top) (spec.of_path (codes "replace"))
    (holds app_of (Ok c.args.command) c.of_path-load.result c.with_command-command.result (app_of c.args.command) (spec.of_path (codes "load")) refl c.of_path-load.ensures.app c.with_command-command.ensures.app)
    c.of_path-replace.ensures.app c.with_command-command-2.ensures.app)
    c.tick_command.ensures.app c.with_command-command-3.ensures.app)
    c.drain_command.ensures.app c.with_command.ensures.app
