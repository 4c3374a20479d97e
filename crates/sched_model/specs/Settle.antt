-- Settling: the first possible move is made, until none is possible.
use Rattle.std.specs.Prelude.{◌≡◌, ℕ, ◌+◌, Bool, true, false, not, ◌&&◌, ◌==◌, cond, List, [], ◌∷◌, length, map, sum_by, Option, Some, None, option_map, option_and_then, slice_get, nat_lt, is_none}
use Rattle.std.specs.List.{list_any, list_all}
use Rattle.sched_state.specs.graph_file.Lists.{when, first_some}
use Rattle.sched_state.specs.graph_file.declared.task_specs.TaskSpec.{TaskSpec}
use Rattle.sched_state.specs.dag_check.Graphs.{Dag, ups, downs}
use Rattle.sched_state.specs.trigger_rules.States.{is_finished, is_bad}
use Rattle.sched_state.specs.trigger_rules.Rules.{rule_verdict}
use Rattle.sched_state.specs.trigger_rules.declared.states.State.{State}
use Rattle.sched_state.specs.trigger_rules.declared.verdicts.Verdict.{Verdict}
use Rattle.sched_state.specs.trigger_rules.declared.verdicts.Verdict.TheVariants as verdict
use Rattle.sched_state.specs.instance_machine.Instances.{InstanceValue}
use Rattle.sched_state.specs.Lists.{change_from, first_change, repeat}
use Rattle.sched_state.specs.declared.runs.RunPhase.{RunPhase}
use Rattle.sched_state.specs.declared.runs.RunPhase.TheVariants as phase
use Rattle.sched_model.specs.Lists.{map_places}
use Rattle.sched_model.specs.Schedule.{Schedule, dag_named, tasks_of, is_paused, max_active_runs_of, is_queued, is_running}
use Rattle.sched_state.specs.declared.runs.Run.{Run}
use Rattle.sched_model.specs.States.{states, state_at, past_is_open, active_runs}

-- ---- decisions (Airflow 2, 'DAGs': trigger rules; that a decision stays is this project's own profile)
-- the states of a place's upstreams, in the order of the file
abbrev pub upstream_states : Schedule → Run → ℕ → List State
upstream_states a r p = map (state_at a r) (ups (dag_named a r.graph) p)

-- what a rule's verdict decides: nothing where it waits, or where it says Run and the past is not open
abbrev pub decides : Bool → Verdict → Option Verdict
decides past verdict.Wait = None
decides past verdict.Run = when past verdict.Run
decides past verdict.Skip = Some verdict.Skip
decides past verdict.UpstreamFailed = Some verdict.UpstreamFailed

-- the verdict that a task would be given
abbrev pub decided_verdict : Schedule → Run → ℕ → TaskSpec → Option Verdict
decided_verdict a r p t = decides (past_is_open a r t p) (rule_verdict t.trigger_rule (upstream_states a r p))

abbrev pub decide_task : Schedule → Run → ℕ → InstanceValue → TaskSpec → Option InstanceValue
decide_task a r p i t = option_map (λ v. record i { verdict = Some v }) (decided_verdict a r p t)

-- an instance without a verdict is given one, where its task decides
abbrev pub decide_instance : Schedule → Run → ℕ → InstanceValue → Option InstanceValue
decide_instance a r p i = elim i.verdict [
  | Some v ↦ None
  | None ↦ option_and_then (decide_task a r p i) (slice_get (tasks_of a r) p)
]

-- the first instance of a running run that can be decided is decided
abbrev pub decide_run : Schedule → Run → Option Run
decide_run a r = elim (is_running r.phase) [
  | true ↦ option_map (λ is. record r { instances = is }) (change_from (decide_instance a r) 0 r.instances)
  | false ↦ None
]

-- ---- ends (Airflow 2, 'DAG Runs': DAG run status)
-- a leaf is nobody's upstream
abbrev pub is_leaf : Dag → ℕ → Bool
is_leaf g p = length (downs g p) == 0

-- a leaf is failed or upstream_failed
abbrev pub has_bad_leaf : Schedule → Run → Bool
has_bad_leaf a r = list_any (λ b. b) (map_places (λ p s. is_bad s && is_leaf (dag_named a r.graph) p) 0 (states a r))

-- a running run whose instances are all finished ends: failed by a bad leaf, else a success
abbrev pub finish_run : Schedule → Run → Option Run
finish_run a r =
    when (is_running r.phase && list_all is_finished (states a r)) (record r { phase = cond (has_bad_leaf a r) phase.Failed phase.Success })

-- ---- starts (Airflow 2, 'DAG Runs': max_active_runs; the order is this project's own profile)
-- a queued run of an unpaused graph can start where fewer runs of its graph are running than may be
abbrev pub can_start : Schedule → Run → Bool
can_start a r =
    is_queued r.phase && (not (is_paused a r.graph) && nat_lt (active_runs a r.graph) (max_active_runs_of a r.graph))

abbrev pub start_run : Schedule → Run → Option Run
start_run a r = when (can_start a r) (record r { phase = phase.Running })

-- ---- moves
-- a decision, else an end, else a start, each at the first run in order at which it is possible
-- restates: this project's own profile
abbrev pub move_runs : Schedule → Option (List Run)
move_runs a = first_some (
    first_change (decide_run a) a.runs
    ∷ first_change (finish_run a) a.runs
    ∷ first_change (start_run a) a.runs
    ∷ [])

-- restates: this project's own profile
abbrev pub with_runs : Schedule → List Run → Schedule
with_runs a rs = record a { runs = rs }

-- the first decision, else the first end, else the first start
-- restates: this project's own profile
abbrev pub move : Schedule → Option Schedule
move a = option_map (with_runs a) (move_runs a)

-- no more moves than this can come: each decides an instance, ends a running run, or starts a queued one
abbrev pub moves_left_in : RunPhase → ℕ
moves_left_in phase.Queued = 2
moves_left_in phase.Running = 1
moves_left_in phase.Success = 0
moves_left_in phase.Failed = 0

abbrev pub is_undecided : InstanceValue → Bool
is_undecided i = is_none i.verdict

abbrev pub decisions_left : InstanceValue → ℕ
decisions_left i = cond (is_undecided i) 1 0

abbrev pub moves_left_of : Run → ℕ
moves_left_of r = moves_left_in r.phase + sum_by decisions_left r.instances

abbrev pub moves_left : Schedule → ℕ
moves_left a = sum_by moves_left_of a.runs

-- moves are made until none is possible
abbrev pub settle : Schedule → Schedule
settle a = repeat (moves_left a) move a

-- the same as a relation: b is reached from a by first moves alone, and no move is possible in it
pub data Settles : Schedule → Schedule → Type 0 where
  still : {a : Schedule} → move a ≡ None → Settles a a
  moved : {a b c : Schedule} → move a ≡ Some b → Settles b c → Settles a c
