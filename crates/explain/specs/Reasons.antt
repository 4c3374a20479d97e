-- Why a task instance is where it is: every reason that holds, in order.
-- docs/EXPLAIN.md has a table of the reasons
use Rattle.std.specs.Prelude.{◌≡◌, ◌⊎◌, ℕ, pos, int_lt, Bool, true, false, not, ◌&&◌, ◌||◌, List, [], ◌∷◌, ◌++◌, map, filter, find, Option, Some, None, option_map, option_and_then, Result, Ok, Err, IsOk, nat_lt, nat_le}
use Rattle.graph_file.specs.Lists.{when}
use Rattle.dag_check.specs.Graphs.{task_of, ups}
use Rattle.trigger_rules.specs.Rules.{rule_verdict}
use Rattle.trigger_rules.specs.States.{is_finished}
use Rattle.trigger_rules.specs.declared.states.State.{State}
use Rattle.trigger_rules.specs.declared.states.State.TheVariants as state
use Rattle.trigger_rules.specs.declared.verdicts.Verdict.{Verdict}
use Rattle.trigger_rules.specs.declared.verdicts.Verdict.TheVariants as verdict
use Rattle.instance_machine.specs.Instances.{last_of}
use Rattle.instance_machine.specs.States.{opens_gate, retry_at}
use Rattle.instance_machine.specs.declared.tries.Try.{Try}
use Rattle.sched_state.specs.Lists.{same}
use Rattle.sched_state.specs.declared.runs.Run.{Run}
use Rattle.sched_model.specs.Schedule.{Schedule, is_queued, is_ended}
use Rattle.sched_model.specs.States.{active_runs, active_tries, in_flight, previous, state_at}
use Rattle.sched_model.specs.Settle.{upstream_states}
use Rattle.sched_model.specs.Handout.{is_ready, last_serial}
use Rattle.sched_core.specs.sched_events.Rows.{PoolLine}
use Rattle.sched_core.specs.Views.{pool_rows}
use Rattle.explain.specs.Subjects.{SubjectValue, state_of_subject, subject_of}
use Rattle.explain.specs.declared.reasons.Reason.{Reason}
use Rattle.explain.specs.declared.reasons.Reason.TheVariants.{Finished, HandedOut, RunQueued, Paused, RunFinished, Upstream, Past, RetryAt, Pool, GraphFull, Lanes}
use Rattle.explain.specs.declared.reasons.ExplainFault.{ExplainFault}
use Rattle.explain.specs.declared.reasons.ExplainFault.TheVariants.{Memory}

-- ---- states
-- none, scheduled or up_for_retry: not handed out, and not finished
-- restates: Airflow 2, 'Tasks'
abbrev pub is_waiting : State → Bool
is_waiting state.None = true
is_waiting state.Scheduled = true
is_waiting state.UpForRetry = true
is_waiting _ = false

abbrev pub is_handed_out : State → Bool
is_handed_out state.Queued = true
is_handed_out state.Running = true
is_handed_out _ = false

abbrev pub is_undecided : State → Bool
is_undecided state.None = true
is_undecided _ = false

abbrev pub is_wait : Verdict → Bool
is_wait verdict.Wait = true
is_wait _ = false

-- x, where the condition holds
abbrev pub if_so : {X : Type 0} → Bool → Option X → Option X
if_so true o = o
if_so false o = None

-- ---- each reason
-- restates: this project's own profile
abbrev pub finished : SubjectValue → Option Reason
finished s = when (is_finished (state_of_subject s)) (Finished (state_of_subject s))

-- restates: this project's own profile
abbrev pub handed_out : SubjectValue → Option Reason
handed_out s = if_so (is_handed_out (state_of_subject s)) (option_map (λ (t : Try). HandedOut t.serial) (last_of s.instance.tries))

-- restates: this project's own profile
abbrev pub run_queued : Schedule → SubjectValue → Option Reason
run_queued a s =
    when (is_waiting (state_of_subject s) && is_queued s.run.phase) (RunQueued (active_runs a s.run.graph) s.graph.dag.spec.max_active_runs)

-- restates: this project's own profile
abbrev pub paused : SubjectValue → Option Reason
paused s = when (is_waiting (state_of_subject s) && s.graph.paused) Paused

-- restates: this project's own profile
abbrev pub run_finished : SubjectValue → Option Reason
run_finished s = when (is_ended s.run.phase) (RunFinished s.run.phase)

-- an upstream, by its place
abbrev pub upstream : Schedule → SubjectValue → ℕ → Reason
upstream a s p = Upstream (task_of s.graph.dag p).task_id (state_at a s.run p)

-- the rule waits
abbrev pub rule_waits : Schedule → SubjectValue → Bool
rule_waits a s = is_undecided (state_of_subject s) && is_wait (rule_verdict s.task.trigger_rule (upstream_states a s.run s.place))

-- the upstreams that are not finished, in the order of the file, where the rule waits
abbrev pub upstreams_if : Bool → Schedule → SubjectValue → List Reason
upstreams_if true a s = map (upstream a s) (filter (λ p. not (is_finished (state_at a s.run p))) (ups s.graph.dag s.place))
upstreams_if false a s = []

-- restates: this project's own profile
abbrev pub upstreams : Schedule → SubjectValue → List Reason
upstreams a s = upstreams_if (rule_waits a s) a s

-- the run before has the task in a state that is neither success nor skipped
abbrev pub past_in : Schedule → SubjectValue → Run → Option Reason
past_in a s r = when (not (opens_gate (Some (state_at a r s.place)))) (Past r.logical (state_at a r s.place))

-- restates: this project's own profile
abbrev pub past : Schedule → SubjectValue → Option Reason
past a s = if_so (is_undecided (state_of_subject s) && s.task.depends_on_past) (option_and_then (past_in a s) (previous a s.run))

-- restates: this project's own profile
abbrev pub retry_later : Schedule → SubjectValue → Option Reason
retry_later a s = option_and_then (λ (m : ℕ). when (nat_lt a.now m) (RetryAt m)) (retry_at s.task s.instance)

-- the instance could be handed out
abbrev pub is_ready_subject : Schedule → SubjectValue → Bool
is_ready_subject a s = is_ready a.now s.task s.instance

-- the pool has fewer open slots than the task takes
abbrev pub pool_in : SubjectValue → PoolLine → Option Reason
pool_in s p = when (int_lt p.open_slots (pos s.task.pool_slots)) (Pool p.name s.task.pool_slots p.open_slots)

-- restates: this project's own profile
abbrev pub pool_full : Schedule → SubjectValue → Option Reason
pool_full a s = if_so (is_ready_subject a s) (option_and_then (pool_in s) (find (λ (p : PoolLine). same p.name s.task.pool) (pool_rows a)))

-- so many tries of the graph are without an end, over all its runs, that it may have no more
-- restates: this project's own profile
abbrev pub graph_full : Schedule → SubjectValue → Option Reason
graph_full a s =
    when (is_ready_subject a s && nat_le s.graph.max_active_tasks (active_tries a s.run.graph)) (GraphFull (active_tries a s.run.graph) s.graph.max_active_tasks)

-- restates: this project's own profile
abbrev pub lanes_full : Schedule → SubjectValue → Option Reason
lanes_full a s = when (is_ready_subject a s && (nat_le a.lanes (in_flight a) || nat_lt last_serial a.next)) (Lanes (in_flight a))

-- ---- all of them, in order
-- a reason in a list, if there is one
-- restates: this project's own profile
abbrev pub given : Option Reason → List Reason
given None = []
given (Some reason) = reason ∷ []

-- all reasons of a subject, in order
-- restates: this project's own profile
unfoldable pub reasons : Schedule → SubjectValue → List Reason
reasons a s =
    given (finished s)
    ++ given (handed_out s)
    ++ given (run_queued a s)
    ++ given (paused s)
    ++ given (run_finished s)
    ++ upstreams a s
    ++ given (past a s)
    ++ given (retry_later a s)
    ++ given (pool_full a s)
    ++ given (graph_full a s)
    ++ given (lanes_full a s)

-- the reasons of the instance of a task in the run of a graph with a logical date, or what is not there
-- restates: this project's own profile
abbrev pub reasons_if : Schedule → Result SubjectValue ExplainFault → Result (List Reason) ExplainFault
reasons_if a (Ok s) = Ok (reasons a s)
reasons_if a (Err fault) = Err fault

-- restates: this project's own profile
abbrev pub explained : Schedule → List ℕ → ℕ → List ℕ → Result (List Reason) ExplainFault
explained a graph date task = reasons_if a (subject_of a graph date task)

-- there are no reasons: something is not there, or it is all there, and memory was wanting
abbrev pub IsUnexplained : Schedule → List ℕ → ℕ → List ℕ → ExplainFault → Type 0
IsUnexplained a graph date task fault =
    (explained a graph date task ≡ Err fault) ⊎ ((fault ≡ Memory) × IsOk (subject_of a graph date task))
