-- What contracts see of an operator.
use Rattle.std.specs.Prelude.{List, Option}
use Rattle.graph_file.specs.declared.operators.Operator.{Operator as Kind}
use Rattle.instance_machine.specs.declared.tries.Outcome.{Outcome}
use Rattle.sched_state.specs.declared.jobs.Job.{Job}

-- What an operator of this type shows: the kind of its tasks; the jobs that it performed, and how each ended; the jobs that it refused; and the job that it has
-- taken up. These are words of the trait `Operator`.
pub record Shows (O : Type 0) : Type 0 where
  pub kind_of : O → Kind
  pub runs_of : O → List (Job × Outcome)
  pub refused_of : O → List Job
  pub taken : O → Option Job

-- these four, as one
abbrev pub shows : {O : Type 0} → (O → Kind) → (O → List (Job × Outcome)) → (O → List Job) → (O → Option Job) → Shows O
shows kind_of runs_of refused_of taken = record { kind_of = kind_of; runs_of = runs_of; refused_of = refused_of; taken = taken }
