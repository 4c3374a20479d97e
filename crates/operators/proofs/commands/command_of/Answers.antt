use Rattle.std.proofs.Common.{◌≡◌, ◌∙◌, ℕ, List, Option, Some, None, option_map, refl, ap}
use Rattle.std.specs.Option.{option_or}
use Rattle.operators.specs.Variables.{variable_of}
use Rattle.operators.proofs.commands.command_of.Goals as goal

or_none : {X : Type 0} (o : Option X) → option_or o None ≡ o
or_none None = refl
or_none (Some x) = refl

pub returns-clause-environment : goal.returns-clause-environment
returns-clause-environment c = (
  c.in_ok-add_variables.ensures.clears ∙ c.in_ok-command.ensures.environment.0,
  λ name.
      c.in_ok-add_variables.ensures.variables name
      ∙ (ap (option_or (option_map (λ (v : List ℕ). Some v) (variable_of c.args.job.now c.args.folder.now name))) (c.in_ok-command.ensures.environment.1 name)
      ∙ or_none (option_map (λ (v : List ℕ). Some v) (variable_of c.args.job.now c.args.folder.now name))),
)
