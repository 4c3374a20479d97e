-- Where the log of a try lies.
use Rattle.std.specs.Prelude.{◌≡◌, ◌<◌, ℕ, ◌^◌, true, List, ◌++◌, codes}
use Rattle.std.specs.Fmt.{decimal}
use Rattle.graph_file.specs.Names.{is_name}
use Rattle.moment_core.specs.Moments.{seconds_end}
use Rattle.sched_state.specs.RunIds.{run_id_text}
use Rattle.sched_state.specs.declared.jobs.Job.{Job}

-- its path under a base folder, as Airflow 2 lays its logs out ('Logging for Tasks': log_filename_template)
-- the base folder's path, then the graph, the run's id, the task and the number of the try
abbrev pub log_path : List ℕ → Job → List ℕ
log_path base job =
    base
    ++ (codes "/dag_id="
    ++ (job.graph
    ++ (codes "/run_id="
    ++ (run_id_text job.kind job.logical
    ++ (codes "/task_id=" ++ (job.task ++ (codes "/attempt=" ++ (decimal job.try_number ++ codes ".log"))))))))

-- its graph and its task have names, its run a date, and the number of its try 64 bits
pub record IsNamed (job : Job) : Type 0 where
  pub graph : is_name job.graph ≡ true
  pub task : is_name job.task ≡ true
  pub date : job.logical < seconds_end
  pub number : job.try_number < 2 ^ 64

-- tries with one number of the same task of the same run of the same graph
pub record IsSameTry (a b : Job) : Type 0 where
  pub graph : a.graph ≡ b.graph
  pub run : a.logical ≡ b.logical
  pub task : a.task ≡ b.task
  pub number : a.try_number ≡ b.try_number
