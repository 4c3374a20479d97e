-- One run whose named instances are set. Instances past the tasks of the graph, which a sound run does not have, stay.
use Rattle.std.specs.Prelude.{ℕ, ◌+◌, Bool, List, [], ◌∷◌, Option}
use Rattle.graph_file.specs.declared.task_specs.TaskSpec.{TaskSpec}
use Rattle.trigger_rules.specs.declared.verdicts.Verdict.{Verdict}
use Rattle.instance_machine.specs.Instances.{InstanceValue}
use Rattle.sched_state.specs.declared.runs.Run.{Run}
use Rattle.sched_model.specs.Clearing.{named_in, requeued, set_pair}
use Rattle.sched_model.specs.Schedule.{Schedule, tasks_of}
use Rattle.sched_clearing.specs.Selections.{SelectionParts, names_instance, selection_of}

-- the instances that pass are set, where the first stands at the place i
abbrev pub set_from : Option Verdict → (ℕ → TaskSpec × InstanceValue → Bool) → ℕ → List TaskSpec → List InstanceValue → List InstanceValue
set_from v f i [] is = is
set_from v f i (t ∷ ts) [] = []
set_from v f i (t ∷ ts) (h ∷ hs) = set_pair v f i (t, h) ∷ set_from v f (i + 1) ts hs

abbrev pub run_set : Option Verdict → (ℕ → TaskSpec × InstanceValue → Bool) → List TaskSpec → Run → Run
run_set v f ts r = record r { instances = set_from v f 0 ts r.instances }

-- a run in which an instance is named has its named ones set, and goes on
abbrev pub set_if_any : Option Verdict → Schedule → SelectionParts → Run → List (TaskSpec × InstanceValue) → Run
set_if_any v a n r [] = r
set_if_any v a n r (e ∷ es) = record (run_set v (names_instance n) (tasks_of a r) r) { phase = requeued r.phase }

abbrev pub set_in : Option Verdict → Schedule → SelectionParts → Run → Run
set_in v a n r = set_if_any v a n r (named_in a (selection_of n) r)
