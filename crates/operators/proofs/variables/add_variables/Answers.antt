use Rattle.std.proofs.Common.{◌∙◌, List, [], take, ap}
use Rattle.std.proofs.lemmas.Result.{on_ok_weaker}
use Rattle.std.specs.Process.{command_var}
use Rattle.operators.specs.Variables.{VariableText, variables_of}
use Rattle.operators.proofs.VariableLemmas.{said, said_of_try}
use Rattle.operators.proofs.variables.add_variables.Goals as goal

pub returns-clause-variables : goal.returns-clause-variables
returns-clause-variables c =
    on_ok_weaker c.set_all-2.result (λ told name.
    told name
    ∙ (ap (λ (vs : List VariableText). said name vs (command_var c.set_all.new.command name)) c.in_ok-names.ensures
    ∙ (ap (said name (take 5 (variables_of c.args.job.now []))) (c.in_ok-set_all.ensures.variables name ∙ ap (λ (vs : List VariableText). said name vs (command_var c.args.command.now name)) c.in_ok-dates.ensures)
    ∙ said_of_try name c.args.job.now c.args.folder.now (command_var c.args.command.now name)))) c.set_all-2.ensures.variables
