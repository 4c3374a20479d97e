-- What an operator keeps of the tries that it performs.
use Rattle.std.specs.Prelude.{ℕ, Bool, List, map, Option}
use Rattle.instance_machine.specs.declared.tries.Outcome.{Outcome}
use Rattle.sched_state.specs.declared.jobs.Job.{Job}

-- the tries that were performed, in order, by job and outcome; the jobs whose folder could not be made, in order; the job that is taken up;
-- whether that one was performed; for how many more tries there is room
pub record ProgressValue : Type 0 where
  pub runs : List (Job × Outcome)
  pub refused : List Job
  pub taken : Option Job
  pub performed : Bool
  pub room : ℕ

-- the tries as a program sees them, in order, by serial and outcome
abbrev pub by_serial : List (Job × Outcome) → List (ℕ × Outcome)
by_serial runs = map (λ (run : Job × Outcome). (run.0.serial, run.1)) runs
