-- The rows of task instances.
-- restates: Airflow 2, 'Tasks': names of states
use Rattle.std.specs.Prelude.{ℕ, List, ◌++◌, codes}
use Rattle.std.specs.Fmt.{decimal}
use Rattle.std.specs.List.{flat_map}
use Rattle.trigger_rules.specs.States.{name_of}
use Rattle.sched_events.specs.Rows.{Row}
use Rattle.sched_state.specs.RunIds.{run_id_text}
use Rattle.answer_lines.specs.Runs.{after_blank}

-- `DAG RUNID TASK STATE TRIES`
abbrev pub task_line : Row → List ℕ
task_line w = w.graph ++ after_blank (run_id_text w.kind w.logical) ++ after_blank w.task ++ after_blank (name_of w.state)
    ++ after_blank (decimal w.tries) ++ codes "\n"

-- a line for each instance, and `ok`
abbrev pub tasks_text : List Row → List ℕ
tasks_text ws = flat_map task_line ws ++ codes "ok\n"
