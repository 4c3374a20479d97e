use Rattle.std.proofs.Common.{rules, codes, Ok}
use Rattle.clap.specs.Words.{app_of, new_app, with_rule}
use Rattle.word_app.specs.Rules.{workers, lanes}
use Rattle.word_app.proofs.AddLemmas.{takes}
use Rattle.word_app.proofs.commands.unlogged_run_command.Goals as goal

pub returns-clause-app : goal.returns-clause-app
returns-clause-app c =
    takes app_of c.with_argument-command-2.result c.with_argument.result (with_rule (with_rule (new_app (codes "run")) workers) lanes) c.scratch_option.ensures.rule
    (takes app_of c.with_argument-command.result c.with_argument-command-2.result (with_rule (new_app (codes "run")) workers) c.lanes_option.ensures.rule
    (takes app_of (Ok c.about-command.result) c.with_argument-command.result (new_app (codes "run")) c.workers_option.ensures.rule (search rules) c.with_argument-command.ensures.app)
    c.with_argument-command-2.ensures.app)
    c.with_argument.ensures.app
