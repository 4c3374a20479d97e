-- What an operator of whichever kind shows: what the one inside does.
use Rattle.std.specs.Prelude.{◌≡◌, Bool, List, [], Option, None}
use Rattle.graph_file.specs.declared.operators.Operator.{Operator as Kind}
use Rattle.graph_file.specs.declared.operators.Operator.TheVariants as kinds
use Rattle.instance_machine.specs.declared.tries.Outcome.{Outcome}
use Rattle.sched_state.specs.declared.jobs.Job.{Job}
use Rattle.script_runner.specs.declared.task_operators.TaskOperator.{TaskOperator}
use Rattle.script_runner.specs.declared.task_operators.TaskOperator.TheVariants.{Noop, Exit, Command}

module _ {P : Type 0} where
  abbrev pub kind_of : (P → Kind) → TaskOperator P → Kind
  kind_of kind (Noop o) = kinds.Noop
  kind_of kind (Exit o) = kinds.Exit
  kind_of kind (Command o) = kind o

  abbrev pub runs_of : (P → List (Job × Outcome)) → TaskOperator P → List (Job × Outcome)
  runs_of runs (Noop o) = o.progress.runs
  runs_of runs (Exit o) = o.progress.runs
  runs_of runs (Command o) = runs o

  abbrev pub refused_by : (P → List Job) → TaskOperator P → List Job
  refused_by refused (Noop o) = o.progress.refused
  refused_by refused (Exit o) = o.progress.refused
  refused_by refused (Command o) = refused o

  abbrev pub taken_by : (P → Option Job) → TaskOperator P → Option Job
  taken_by taken (Noop o) = o.progress.taken
  taken_by taken (Exit o) = o.progress.taken
  taken_by taken (Command o) = taken o

  abbrev pub performed_by : (P → Bool) → TaskOperator P → Bool
  performed_by performed (Noop o) = o.progress.performed
  performed_by performed (Exit o) = o.progress.performed
  performed_by performed (Command o) = performed o

-- the operator has performed no try, refused none and taken none up
abbrev pub IsFresh : {O : Type 0} → (O → List (Job × Outcome)) → (O → List Job) → (O → Option Job) → O → Type 0
IsFresh runs refused taken o = (runs o ≡ []) × (refused o ≡ []) × (taken o ≡ None)
