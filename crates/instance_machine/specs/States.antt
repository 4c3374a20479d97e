-- The state of an instance, and when a failed one may be tried again.
use Rattle.std.specs.Prelude.{ℕ, ◌+◌, Bool, true, false, ◌||◌, cond, if◌then◌else◌, option_map, option_and_then, nat_le, length, Option, Some, None, is_some}
use Rattle.graph_file.specs.declared.task_specs.TaskSpec.{TaskSpec}
use Rattle.trigger_rules.specs.States.{is_success, is_skipped}
use Rattle.trigger_rules.specs.declared.states.State.{State}
use Rattle.trigger_rules.specs.declared.states.State.TheVariants as state
use Rattle.trigger_rules.specs.declared.verdicts.Verdict.{Verdict}
use Rattle.trigger_rules.specs.declared.verdicts.Verdict.TheVariants as verdict
use Rattle.instance_machine.specs.Instances.{InstanceValue, recent, last_of}
use Rattle.instance_machine.specs.declared.tries.Try.{Try}
use Rattle.instance_machine.specs.declared.tries.End.{End}
use Rattle.instance_machine.specs.declared.tries.Outcome.{Outcome}
use Rattle.instance_machine.specs.declared.tries.Outcome.TheVariants as outcome

-- without a try: as the rule decided
abbrev pub state_of_verdict : Option Verdict → State
state_of_verdict None = state.None
state_of_verdict (Some verdict.Wait) = state.None
state_of_verdict (Some verdict.Run) = state.Scheduled
state_of_verdict (Some verdict.Skip) = state.Skipped
state_of_verdict (Some verdict.UpstreamFailed) = state.UpstreamFailed

-- after a try that ended: a failed or lost one is up for retry while tries are left
abbrev pub ended_as : Bool → Outcome → State
ended_as left outcome.Success = state.Success
ended_as left outcome.Skipped = state.Skipped
ended_as left outcome.Failed = cond left state.UpForRetry state.Failed
ended_as left outcome.Lost = cond left state.UpForRetry state.Failed

-- by a try's end, or whether it has begun
abbrev pub state_of_end : Bool → Option ℕ → Option End → State
state_of_end left started None = cond (is_some started) state.Running state.Queued
state_of_end left started (Some e) = ended_as left e.outcome

-- by the last try since the last clearing, or the verdict where there is none
abbrev pub state_by : Option Verdict → Bool → Option Try → State
state_by v left None = state_of_verdict v
state_by v left (Some t) = state_of_end left t.started t.ended

-- at most `retries` tries since the last clearing, so that there is a further one
-- restates: Airflow 2, `retries`, `retry_delay`
abbrev pub has_retry : TaskSpec → InstanceValue → Bool
has_retry t i = nat_le (length (recent i)) t.retries

-- the state by the last recent try, or by the verdict
-- restates: Airflow 2, 'Tasks': task instances
abbrev pub state_of : TaskSpec → InstanceValue → State
state_of t i = state_by i.verdict (has_retry t i) (last_of (recent i))

-- what came before lets a task run that depends on the past: there is nothing before, or it was a success or skipped
-- restates: Airflow 2, 'DAGs': depends on past
abbrev pub opens_gate : Option State → Bool
opens_gate None = true
opens_gate (Some s) = is_success s || is_skipped s

abbrev pub is_up_for_retry : State → Bool
is_up_for_retry state.UpForRetry = true
is_up_for_retry _ = false

-- where the state is up_for_retry: the end of the last try, and the delay
abbrev pub retry_of : Option Try → ℕ → Option ℕ
retry_of last delay = option_map (λ e. e.moment + delay) (option_and_then (λ t. t.ended) last)

-- restates: Airflow 2, `retries`, `retry_delay`
abbrev pub retry_at : TaskSpec → InstanceValue → Option ℕ
retry_at t i = if is_up_for_retry (state_of t i) then retry_of (last_of (recent i)) t.retry_delay else None
