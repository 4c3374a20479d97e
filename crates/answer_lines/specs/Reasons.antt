-- The lines of reasons why a task instance is where it is, and of questions that have no answer.
-- restates: this project's own profile
use Rattle.std.specs.Prelude.{ℕ, ℤ, List, ◌++◌, codes, nat_lt, if◌then◌else◌}
use Rattle.std.specs.Fmt.{decimal, signed_decimal}
use Rattle.std.specs.List.{flat_map}
use Rattle.moment_core.specs.Moments.{seconds_end}
use Rattle.moment_core.specs.Printing.{text_of}
use Rattle.trigger_rules.specs.States.{name_of}
use Rattle.trigger_rules.specs.declared.states.State.{State}
use Rattle.sched_state.specs.declared.runs.RunPhase.{RunPhase}
use Rattle.explain.specs.declared.reasons.Reason.{Reason}
use Rattle.explain.specs.declared.reasons.Reason.TheVariants.{Finished, HandedOut, RunQueued, Paused, RunFinished, Upstream, Past, RetryAt, Pool, GraphFull, Lanes}
use Rattle.explain.specs.declared.reasons.ExplainFault.{ExplainFault}
use Rattle.explain.specs.declared.reasons.ExplainFault.TheVariants.{UnknownGraph, UnknownRun, UnknownTask, Memory}
use Rattle.answer_lines.specs.Runs.{phase_text}

-- `finished STATE`
abbrev pub finished_line : State → List ℕ
finished_line state = codes "finished " ++ (name_of state ++ codes "\n")

-- `run-queued ACTIVE limit LIMIT`
abbrev pub run_queued_line : ℕ → ℕ → List ℕ
run_queued_line active limit = codes "run-queued " ++ (decimal active ++ (codes " limit " ++ (decimal limit ++ codes "\n")))

-- `run-finished PHASE`
abbrev pub run_finished_line : RunPhase → List ℕ
run_finished_line phase = codes "run-finished " ++ (phase_text phase ++ codes "\n")

-- `upstream TASK STATE`
abbrev pub upstream_line : List ℕ → State → List ℕ
upstream_line task state = codes "upstream " ++ (task ++ (codes " " ++ (name_of state ++ codes "\n")))

-- `past LOGICAL STATE`
abbrev pub past_line : ℕ → State → List ℕ
past_line logical state = codes "past " ++ (text_of logical ++ (codes " " ++ (name_of state ++ codes "\n")))

-- `retry-at MOMENT`, and `retry-at never` past the end of moments
abbrev pub retry_line : ℕ → List ℕ
retry_line seconds = if nat_lt seconds seconds_end then codes "retry-at " ++ (text_of seconds ++ codes "\n") else codes "retry-at never\n"

-- `pool NAME needs SLOTS open SLOTS`
abbrev pub pool_reason_line : List ℕ → ℕ → ℤ → List ℕ
pool_reason_line pool needs free =
    codes "pool " ++ (pool ++ (codes " needs " ++ (decimal needs ++ (codes " open " ++ (signed_decimal free ++ codes "\n")))))

-- `graph-full ACTIVE limit LIMIT`
abbrev pub graph_full_line : ℕ → ℕ → List ℕ
graph_full_line active limit = codes "graph-full " ++ (decimal active ++ (codes " limit " ++ (decimal limit ++ codes "\n")))

-- the line of a reason
abbrev pub reason_line : Reason → List ℕ
reason_line (Finished state) = finished_line state
reason_line (HandedOut serial) = codes "handed-out " ++ (decimal serial ++ codes "\n")
reason_line (RunQueued active limit) = run_queued_line active limit
reason_line Paused = codes "paused\n"
reason_line (RunFinished phase) = run_finished_line phase
reason_line (Upstream task state) = upstream_line task state
reason_line (Past logical state) = past_line logical state
reason_line (RetryAt seconds) = retry_line seconds
reason_line (Pool pool needs free) = pool_reason_line pool needs free
reason_line (GraphFull active limit) = graph_full_line active limit
reason_line (Lanes count) = codes "lanes " ++ (decimal count ++ codes "\n")

-- a line for each reason, and `ok`
abbrev pub reasons_text : List Reason → List ℕ
reasons_text reasons = flat_map reason_line reasons ++ codes "ok\n"

-- `explain`, the fault's number and name; want of memory is `memory`
abbrev pub explain_fault_text : ExplainFault → List ℕ
explain_fault_text UnknownGraph = codes "explain 1 UnknownGraph\n"
explain_fault_text UnknownRun = codes "explain 2 UnknownRun\n"
explain_fault_text UnknownTask = codes "explain 3 UnknownTask\n"
explain_fault_text Memory = codes "memory\n"
