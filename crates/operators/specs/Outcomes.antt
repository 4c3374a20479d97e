-- How a try may end under an operator of each kind.
use Rattle.std.specs.Prelude.{◌≡◌, ℕ, ◌-◌, ◌==◌, min, Bool, true, false, List, [], ◌∷◌, length, slice_index_or, if◌then◌else◌, Option, Some, option_map, unwrap_or, Result, Ok, Err, ℤ, pos}
use Rattle.graph_file.specs.Operators.{status_of}
use Rattle.graph_file.specs.declared.operators.Operator.{Operator as Kind}
use Rattle.graph_file.specs.declared.operators.Operator.TheVariants.{Noop, Command, Exit}
use Rattle.instance_machine.specs.declared.tries.Outcome.{Outcome}
use Rattle.instance_machine.specs.declared.tries.Outcome.TheVariants as ends
use Rattle.sched_state.specs.declared.jobs.Job.{Job}
use Rattle.operators.specs.declared.operators.BeginFault.{BeginFault}
use Rattle.operators.specs.declared.operators.BeginFault.TheVariants.{Scratch}

-- what an exit status says of a try: 0 is success, 99 asks to be skipped, and another one is a failure
-- restates: Airflow 2, `BashOperator`: `skip_on_exit_code`
abbrev pub status_outcome : ℕ → Outcome
status_outcome n = if n == 0 then ends.Success else if n == 99 then ends.Skipped else ends.Failed

-- what is said by the code with which a program ended, none where a signal ended it
-- restates: POSIX, `waitpid`
abbrev pub code_outcome : Option ℤ → Outcome
code_outcome (Some (pos n)) = status_outcome n
code_outcome _ = ends.Failed

-- the text for the try with this number, from 1: the first for the first try, and so on, and the last for each later one
-- restates: this project's own profile
abbrev pub text_of_try : List (List ℕ) → ℕ → List ℕ
text_of_try argv n = slice_index_or argv (min (n - 1) (length argv - 1)) []

-- what the status for the try with this number says, where the texts are statuses; a text that is none is a failure
-- restates: this project's own profile
abbrev pub exit_outcome : List (List ℕ) → ℕ → Outcome
exit_outcome argv n = unwrap_or (option_map status_outcome (status_of (text_of_try argv n))) ends.Failed

-- nobody knows how the try ended
abbrev pub is_lost : Outcome → Bool
is_lost ends.Lost = true
is_lost _ = false

-- the job, where its folder could not be made
abbrev pub refused_by : {T : Type 0} → Result T BeginFault → Job → List Job
refused_by (Err Scratch) job = job ∷ []
refused_by _ job = []

-- an operator of this kind may end a try of the job so
-- `noop` with success, `exit` as the status says, `command` with all but lost
-- restates: Airflow 2, 'Operators'
abbrev pub CanEnd : Kind → Job → Outcome → Type 0
CanEnd Noop job o = o ≡ ends.Success
CanEnd Command job o = is_lost o ≡ false
CanEnd Exit job o = o ≡ exit_outcome job.action.argv job.try_number
