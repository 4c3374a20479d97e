-- The ids of runs (Airflow 2, 'DAG Runs').
use Rattle.std.specs.Prelude.{ℕ, List, ◌++◌, codes}
use Rattle.moment_core.specs.Printing.{text_of}
use Rattle.sched_state.specs.declared.runs.RunKind.{RunKind}
use Rattle.sched_state.specs.declared.runs.RunKind.TheVariants.{Scheduled, Manual, Backfill}

-- the name of a run's type
-- restates: Airflow 2, 'DAG Runs': run type, run id
abbrev pub kind_text : RunKind → List ℕ
kind_text Scheduled = codes "scheduled"
kind_text Manual = codes "manual"
kind_text Backfill = codes "backfill"

-- `scheduled__2024-01-01T00:00:00+00:00`
-- restates: Airflow 2, 'DAG Runs': run type, run id
abbrev pub run_id_text : RunKind → ℕ → List ℕ
run_id_text kind logical = kind_text kind ++ codes "__" ++ text_of logical
