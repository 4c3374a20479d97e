-- What functions inside the crate give: reasons over a graph and a run, without the schedule.
use Rattle.std.specs.Prelude.{ℕ, not, List, Option, Some}
use Rattle.graph_file.specs.Lists.{when}
use Rattle.dag_check.specs.Graphs.{task_of}
use Rattle.trigger_rules.specs.States.{is_finished}
use Rattle.trigger_rules.specs.declared.states.State.{State}
use Rattle.instance_machine.specs.States.{opens_gate}
use Rattle.sched_state.specs.declared.runs.Run.{Run}
use Rattle.sched_settling.specs.States.{state_in}
use Rattle.explain.specs.Reasons.{given}
use Rattle.explain.specs.Subjects.{SubjectValue}
use Rattle.explain.specs.declared.reasons.Reason.{Reason}
use Rattle.explain.specs.declared.reasons.Reason.TheVariants.{Upstream, Past}

-- an upstream at a place, where it is in a state that is not finished
abbrev pub upstream_in : SubjectValue → ℕ → State → List Reason
upstream_in s p state = given (when (not (is_finished state)) (Upstream (task_of s.graph.dag p).task_id state))

abbrev pub upstream_if : SubjectValue → ℕ → List Reason
upstream_if s p = upstream_in s p (state_in s.graph.dag s.run p)

-- the state in a run before, where it holds a task back
abbrev pub past_by : State → Run → Option Reason
past_by state r = when (not (opens_gate (Some state))) (Past r.logical state)
