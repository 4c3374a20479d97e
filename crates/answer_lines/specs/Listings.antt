-- The rows of a schedule.
-- restates: this project's own profile
use Rattle.std.specs.Prelude.{ℕ, List}
use Rattle.sched_model.specs.Schedule.{Schedule}
use Rattle.explain.specs.sched_core.Views.{all_rows, pool_rows}
use Rattle.command_words.specs.declared.commands.Listing.{Listing}
use Rattle.command_words.specs.declared.commands.Listing.TheVariants.{Dags, Runs, Tasks, Pools}
use Rattle.answer_lines.specs.Dags.{dags_text}
use Rattle.answer_lines.specs.Pools.{pools_text}
use Rattle.answer_lines.specs.Runs.{runs_text}
use Rattle.answer_lines.specs.Tasks.{tasks_text}

-- a row for each graph, by id; for each run, by graph id and logical date; for each task instance, by graph id, logical date and task id; for each pool, by name; and `ok`
abbrev pub listing_text : Schedule → Listing → List ℕ
listing_text a Dags = dags_text a
listing_text a Runs = runs_text a.runs
listing_text a Tasks = tasks_text (all_rows a)
listing_text a Pools = pools_text (pool_rows a)
