-- The task instance that is asked about, with its run and its graph.
use Rattle.std.specs.Prelude.{◌≡◌, ◌<◌, ℕ, List, length, Option, Some, None, Result, Ok, Err, find, position, slice_get}
use Rattle.graph_file.specs.declared.task_specs.TaskSpec.{TaskSpec}
use Rattle.dag_check.specs.Graphs.{task_of}
use Rattle.trigger_rules.specs.declared.states.State.{State}
use Rattle.instance_machine.specs.Instances.{InstanceValue}
use Rattle.instance_machine.specs.States.{state_of}
use Rattle.sched_state.specs.Lists.{same}
use Rattle.sched_state.specs.declared.graphs.LoadedGraph.{LoadedGraph}
use Rattle.sched_state.specs.declared.runs.Run.{Run}
use Rattle.sched_model.specs.Schedule.{Schedule, graph_named, is_at}
use Rattle.explain.specs.declared.reasons.ExplainFault.{ExplainFault}
use Rattle.explain.specs.declared.reasons.ExplainFault.TheVariants.{UnknownGraph, UnknownRun, UnknownTask}

-- a task instance with its run, its graph, its task and its place
pub record SubjectValue : Type 0 where
  pub graph : LoadedGraph
  pub run : Run
  pub place : ℕ
  pub task : TaskSpec
  pub instance : InstanceValue

-- the state of the instance (Airflow 2, 'Tasks': task instances)
abbrev pub state_of_subject : SubjectValue → State
state_of_subject s = state_of s.task s.instance

-- ---- the instance of a task in the run of a graph with a logical date, or what is not there
abbrev pub with_instance : LoadedGraph → Run → ℕ → Option InstanceValue → Result SubjectValue ExplainFault
with_instance g r p None = Err UnknownTask
with_instance g r p (Some i) = Ok (record { graph = g; run = r; place = p; task = task_of g.dag p; instance = i })

abbrev pub with_place : LoadedGraph → Run → Option ℕ → Result SubjectValue ExplainFault
with_place g r None = Err UnknownTask
with_place g r (Some p) = with_instance g r p (slice_get r.instances p)

abbrev pub with_run : LoadedGraph → List ℕ → Option Run → Result SubjectValue ExplainFault
with_run g task None = Err UnknownRun
with_run g task (Some r) = with_place g r (position (λ (t : TaskSpec). same t.task_id task) g.dag.tasks)

abbrev pub with_graph : Schedule → List ℕ → ℕ → List ℕ → Option LoadedGraph → Result SubjectValue ExplainFault
with_graph a graph date task None = Err UnknownGraph
with_graph a graph date task (Some g) = with_run g task (find (is_at graph date) a.runs)

-- the instance of a task in the run of a graph with a date
abbrev pub subject_of : Schedule → List ℕ → ℕ → List ℕ → Result SubjectValue ExplainFault
subject_of a graph date task = with_graph a graph date task (graph_named a graph)

-- the subject is one of the schedule: its run is there, its graph is that of its run, and its task and its instance stand at its place
pub record IsSubjectOf (a : Schedule) (s : SubjectValue) : Type 0 where
  pub run : find (is_at s.run.graph s.run.logical) a.runs ≡ Some s.run
  pub graph : graph_named a s.run.graph ≡ Some s.graph
  pub place : s.place < length s.graph.dag.tasks
  pub task : s.task ≡ task_of s.graph.dag s.place
  pub instance : slice_get s.run.instances s.place ≡ Some s.instance
