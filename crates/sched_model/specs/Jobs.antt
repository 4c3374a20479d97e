-- What is told of a try that is handed out.
-- restates: this project's own profile
use Rattle.std.specs.Prelude.{ℕ, ◌-◌, ◌==◌, List, map, filter, flat_map}
use Rattle.std.specs.List.{enumerate_from, range_with_len}
use Rattle.sched_state.specs.graph_file.declared.task_specs.TaskSpec.{TaskSpec}
use Rattle.sched_state.specs.instance_machine.Instances.{InstanceValue}
use Rattle.sched_state.specs.instance_machine.declared.tries.Try.{Try}
use Rattle.sched_state.specs.declared.jobs.Job.{Job}
use Rattle.sched_model.specs.Schedule.{Schedule}
use Rattle.sched_state.specs.declared.runs.Run.{Run}
use Rattle.sched_model.specs.Clearing.{pairs_of}

-- the job of a try
abbrev pub job_of : Run → TaskSpec → ℕ × Try → Job
job_of r t e = record {
  serial = e.1.serial;
  graph = r.graph;
  logical = r.logical;
  interval = r.interval;
  kind = r.kind;
  task = t.task_id;
  try_number = e.0;
  action = t.action;
  pool = t.pool;
  slots = e.1.slots;
}

abbrev pub jobs_of : Run → TaskSpec × InstanceValue → List Job
jobs_of r e = map (job_of r e.0) (enumerate_from 1 e.1.tries)

-- a job for each try
abbrev pub all_jobs : Schedule → List Job
all_jobs a = flat_map (λ r. flat_map (jobs_of r) (pairs_of a r)) a.runs

abbrev pub job_at : Schedule → ℕ → List Job
job_at a serial = filter (λ (j : Job). j.serial == serial) (all_jobs a)

-- the jobs that were handed out between two schedules, by serial
abbrev pub handed : Schedule → Schedule → List Job
handed a b = flat_map (job_at b) (range_with_len a.next (b.next - a.next))
