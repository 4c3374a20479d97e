-- The rows of graphs.
-- restates: this project's own profile
use Rattle.std.specs.Prelude.{ℕ, Bool, true, false, List, ◌++◌, codes}
use Rattle.std.specs.Fmt.{decimal}
use Rattle.std.specs.List.{flat_map}
use Rattle.sched_state.specs.declared.graphs.LoadedGraph.{LoadedGraph}
use Rattle.sched_model.specs.Schedule.{Schedule}
use Rattle.sched_model.specs.States.{active_runs}
use Rattle.answer_lines.specs.Runs.{after_blank}

-- whether a graph is paused, as a word
abbrev pub pause_text : Bool → List ℕ
pause_text true = codes "paused"
pause_text false = codes "unpaused"

-- `DAG PAUSED RUNNING MOST`, as `orders unpaused 1 16`: how many of its runs are running, and how many may be at once ('max_active_runs' of Airflow 2)
abbrev pub dag_line : Schedule → LoadedGraph → List ℕ
dag_line a g = g.dag.spec.dag_id ++ after_blank (pause_text g.paused) ++ after_blank (decimal (active_runs a g.dag.spec.dag_id))
    ++ after_blank (decimal g.dag.spec.max_active_runs) ++ codes "\n"

-- a line for each graph, and `ok`
abbrev pub dags_text : Schedule → List ℕ
dags_text a = flat_map (dag_line a) a.graphs ++ codes "ok\n"
