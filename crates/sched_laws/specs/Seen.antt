-- What the moves of settling see of a schedule: of an instance whether it is undecided, and its state where that is an end.
use Rattle.std.specs.Prelude.{ℕ, ◌+◌, Bool, false, not, ◌&&◌, ◌||◌, List, [], ◌∷◌, map, count_by, Option, Some, None, unwrap_or, option_map, slice_get, nat_lt, is_some}
use Rattle.std.specs.List.{list_any, list_all}
use Rattle.graph_file.specs.declared.task_specs.TaskSpec.{TaskSpec}
use Rattle.dag_check.specs.Graphs.{ups}
use Rattle.sched_model.specs.trigger_rules.States.{is_finished}
use Rattle.sched_model.specs.trigger_rules.Rules.{rule_verdict}
use Rattle.sched_model.specs.trigger_rules.declared.verdicts.Verdict.{Verdict}
use Rattle.sched_model.specs.trigger_rules.declared.states.State.{State}
use Rattle.sched_model.specs.trigger_rules.declared.states.State.TheVariants as state
use Rattle.sched_model.specs.instance_machine.States.{state_of, opens_gate}
use Rattle.sched_model.specs.sched_state.Lists.{same}
use Rattle.sched_model.specs.sched_state.declared.graphs.LoadedGraph.{LoadedGraph}
use Rattle.sched_model.specs.sched_state.declared.runs.RunPhase.{RunPhase}
use Rattle.sched_model.specs.Lists.{zip_with, last_passing}
use Rattle.sched_model.specs.Schedule.{Schedule, graph_among, dag_among, is_running, is_queued}
use Rattle.sched_model.specs.sched_state.declared.runs.Run.{Run}
use Rattle.sched_model.specs.Settle.{decides, is_undecided}

-- an end, and none for each state that is not one
abbrev pub seen : State → State
seen state.None = state.None
seen state.Scheduled = state.None
seen state.Queued = state.None
seen state.Running = state.None
seen state.UpForRetry = state.None
seen state.Success = state.Success
seen state.Failed = state.Failed
seen state.Skipped = state.Skipped
seen state.UpstreamFailed = state.UpstreamFailed

-- what is seen of a run
pub record Sight : Type 0 where
  pub graph : List ℕ
  pub logical : ℕ
  pub phase : RunPhase
  -- whether each instance is undecided
  pub undecided : List Bool
  -- what is seen of each instance's state
  pub states : List State

abbrev pub tasks_among : List LoadedGraph → List ℕ → List TaskSpec
tasks_among gs id = (dag_among gs id).tasks

abbrev pub sight_of : List LoadedGraph → Run → Sight
sight_of gs r = record {
  graph = r.graph;
  logical = r.logical;
  phase = r.phase;
  undecided = map is_undecided r.instances;
  states = map seen (zip_with state_of (tasks_among gs r.graph) r.instances);
}

abbrev pub sights : Schedule → List Sight
sights a = map (sight_of a.graphs) a.runs

-- ---- the moves, by what is seen
abbrev pub seen_at : Sight → ℕ → State
seen_at v p = unwrap_or (slice_get v.states p) state.None

abbrev pub is_seen_earlier : Sight → Sight → Bool
is_seen_earlier v w = same w.graph v.graph && nat_lt w.logical v.logical

abbrev pub seen_before : List Sight → Sight → Option Sight
seen_before vs v = last_passing (is_seen_earlier v) vs

abbrev pub seen_past : List Sight → Sight → TaskSpec → ℕ → Bool
seen_past vs v t p = not t.depends_on_past || opens_gate (option_map (λ w. seen_at w p) (seen_before vs v))

-- the verdict that a task would be given
abbrev pub seen_verdict : List LoadedGraph → List Sight → Sight → ℕ → TaskSpec → Option Verdict
seen_verdict gs vs v p t = decides (seen_past vs v t p) (rule_verdict t.trigger_rule (map (seen_at v) (ups (dag_among gs v.graph) p)))

abbrev pub has_verdict : List LoadedGraph → List Sight → Sight → ℕ → Option TaskSpec → Bool
has_verdict gs vs v p None = false
has_verdict gs vs v p (Some t) = is_some (seen_verdict gs vs v p t)

abbrev pub any_from : {X : Type 0} → (ℕ → X → Bool) → ℕ → List X → Bool
any_from f i [] = false
any_from f i (x ∷ xs) = f i x || any_from f (i + 1) xs

abbrev pub can_decide : List LoadedGraph → List Sight → Sight → ℕ → Bool → Bool
can_decide gs vs v p b = b && has_verdict gs vs v p (slice_get (tasks_among gs v.graph) p)

abbrev pub can_decide_in : List LoadedGraph → List Sight → Sight → Bool
can_decide_in gs vs v = is_running v.phase && any_from (can_decide gs vs v) 0 v.undecided

abbrev pub can_finish : Sight → Bool
can_finish v = is_running v.phase && list_all is_finished v.states

abbrev pub seen_active : List Sight → List ℕ → ℕ
seen_active vs id = count_by (λ (w : Sight). same w.graph id && is_running w.phase) vs

abbrev pub most_among : List LoadedGraph → List ℕ → ℕ
most_among gs id = (dag_among gs id).spec.max_active_runs

abbrev pub paused_among : List LoadedGraph → List ℕ → Bool
paused_among gs id = unwrap_or (option_map (λ (g : LoadedGraph). g.paused) (graph_among gs id)) false

abbrev pub can_start_seen : List LoadedGraph → List Sight → Sight → Bool
can_start_seen gs vs v = is_queued v.phase && (not (paused_among gs v.graph) && nat_lt (seen_active vs v.graph) (most_among gs v.graph))

-- whether a move is possible
abbrev pub can_move : List LoadedGraph → List Sight → Bool
can_move gs vs = list_any (can_decide_in gs vs) vs || (list_any can_finish vs || list_any (can_start_seen gs vs) vs)
