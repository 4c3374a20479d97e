-- What a schedule has for the runs and the graphs of one that is made over it.
use Rattle.std.specs.Prelude.{◌≡◌, ℕ, false, List, map, find, Option, Some, slice_get, option_and_then}
use Rattle.graph_file.specs.declared.task_specs.TaskSpec.{TaskSpec}
use Rattle.dag_check.specs.Orders.{is_in}
use Rattle.instance_machine.specs.Instances.{InstanceValue}
use Rattle.sched_state.specs.declared.graphs.LoadedGraph.{LoadedGraph}
use Rattle.sched_state.specs.declared.runs.Run.{Run}
use Rattle.sched_model.specs.Clearing.{place_of}
use Rattle.sched_model.specs.Schedule.{Schedule, dag_among, dag_named, is_at}

-- ---- graphs
-- at each place stands a graph with the same id
abbrev pub AreNamedAlike : List LoadedGraph → List LoadedGraph → Type 0
AreNamedAlike gs hs = map (λ (g : LoadedGraph). g.dag.spec.dag_id) hs ≡ map (λ (g : LoadedGraph). g.dag.spec.dag_id) gs

-- of each run of the second that is not at one of these positions the graph has the same tasks and edges in both
abbrev pub KeepDags : List ℕ → Schedule → Schedule → Type 0
KeepDags touched a b = (n : ℕ) (r : Run) → slice_get b.runs n ≡ Some r → is_in touched n ≡ false → dag_among b.graphs r.graph ≡ dag_among a.graphs r.graph

-- ---- instances, by the ids of their tasks
-- what there was for a run: the run with its key, if there was one, and the tasks of its graph
pub record EarlierValue : Type 0 where
  pub run : Option Run
  pub tasks : List TaskSpec

-- what a schedule has for a run
abbrev pub earlier_of : Schedule → Run → EarlierValue
earlier_of a like = record { run = find (is_at like.graph like.logical) a.runs; tasks = (dag_named a like.graph).tasks }

-- of that the instance of the task with this id
abbrev pub instance_named : EarlierValue → List ℕ → Option InstanceValue
instance_named w id = option_and_then (λ (place : ℕ). option_and_then (λ (r : Run). slice_get r.instances place) w.run) (place_of w.tasks id)

abbrev pub instance_before : Schedule → Run → List ℕ → Option InstanceValue
instance_before a like id = instance_named (earlier_of a like) id
