-- What a program is told of its try, as variables of its environment: by the names that Airflow 2's BashOperator gives, and by names of our own
-- where Airflow has templates alone.
use Rattle.std.specs.Prelude.{ℕ, List, [], ◌∷◌, Option, option_map, codes, bytes_eq}
use Rattle.std.specs.Fmt.{decimal}
use Rattle.std.specs.List.{find}
use Rattle.moment_core.specs.Printing.{text_of}
use Rattle.sched_state.specs.RunIds.{kind_text, run_id_text}
use Rattle.sched_state.specs.declared.jobs.Job.{Job}

-- a variable and its value
-- restates: Airflow 2, `BashOperator`: `AIRFLOW_CTX_..`; the others are this project's own
pub record VariableText : Type 0 where
  pub name : List ℕ
  pub value : List ℕ

abbrev variable : List ℕ → List ℕ → VariableText
variable name value = record { name = name; value = value }

-- those of a try with its folder. Each name stands there once
-- restates: Airflow 2, `BashOperator`: `AIRFLOW_CTX_..`; the others are this project's own
abbrev pub variables_of : Job → List ℕ → List VariableText
variables_of job folder =
    variable (codes "AIRFLOW_CTX_DAG_ID") job.graph
    ∷ variable (codes "AIRFLOW_CTX_TASK_ID") job.task
    ∷ variable (codes "AIRFLOW_CTX_EXECUTION_DATE") (text_of job.logical)
    ∷ variable (codes "AIRFLOW_CTX_TRY_NUMBER") (decimal job.try_number)
    ∷ variable (codes "AIRFLOW_CTX_DAG_RUN_ID") (run_id_text job.kind job.logical)
    ∷ variable (codes "DAGSCHED_DATA_INTERVAL_START") (text_of job.interval.start)
    ∷ variable (codes "DAGSCHED_DATA_INTERVAL_END") (text_of job.interval.end)
    ∷ variable (codes "DAGSCHED_RUN_TYPE") (kind_text job.kind)
    ∷ variable (codes "DAGSCHED_SERIAL") (decimal job.serial)
    ∷ variable (codes "DAGSCHED_SCRATCH") folder
    ∷ []

-- the value of a name among some variables
abbrev pub value_of : List ℕ → List VariableText → Option (List ℕ)
value_of name variables = option_map (λ (v : VariableText). v.value) (find (λ (v : VariableText). bytes_eq v.name name) variables)

-- the value of a name, where a try's program is told one
abbrev pub variable_of : Job → List ℕ → List ℕ → Option (List ℕ)
variable_of job folder name = value_of name (variables_of job folder)
