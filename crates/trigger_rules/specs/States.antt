-- The states of task instances, and which of them are ends.
use Rattle.std.specs.Prelude.{ℕ, Bool, true, false, ◌||◌, List, codes}
use Rattle.trigger_rules.specs.declared.states.State.{State}
use Rattle.trigger_rules.specs.declared.states.State.TheVariants as state

-- the name of a state
-- restates: Airflow 2, 'Tasks': task instances
abbrev pub name_of : State → List ℕ
name_of state.None = codes "none"
name_of state.Scheduled = codes "scheduled"
name_of state.Queued = codes "queued"
name_of state.Running = codes "running"
name_of state.Success = codes "success"
name_of state.Failed = codes "failed"
name_of state.Skipped = codes "skipped"
name_of state.UpForRetry = codes "up_for_retry"
name_of state.UpstreamFailed = codes "upstream_failed"

abbrev pub is_success : State → Bool
is_success state.Success = true
is_success _ = false

abbrev pub is_failed : State → Bool
is_failed state.Failed = true
is_failed _ = false

abbrev pub is_upstream_failed : State → Bool
is_upstream_failed state.UpstreamFailed = true
is_upstream_failed _ = false

abbrev pub is_skipped : State → Bool
is_skipped state.Skipped = true
is_skipped _ = false

-- failed or upstream_failed
abbrev pub is_bad : State → Bool
is_bad s = is_failed s || is_upstream_failed s

-- success, failed, upstream_failed and skipped are the ends
abbrev pub is_finished : State → Bool
is_finished s = (is_success s || is_bad s) || is_skipped s
