-- The lines of tries that are handed out.
-- restates: this project's own profile
use Rattle.std.specs.Prelude.{ℕ, List, ◌++◌, codes}
use Rattle.std.specs.Fmt.{decimal}
use Rattle.moment_core.specs.Printing.{text_of}
use Rattle.sched_state.specs.declared.jobs.Job.{Job}
use Rattle.answer_lines.specs.Runs.{after_blank}

-- `try SERIAL DAG LOGICAL TASK NUMBER`
abbrev pub job_line : Job → List ℕ
job_line j = codes "try " ++ decimal j.serial ++ after_blank j.graph ++ after_blank (text_of j.logical) ++ after_blank j.task
    ++ after_blank (decimal j.try_number) ++ codes "\n"
