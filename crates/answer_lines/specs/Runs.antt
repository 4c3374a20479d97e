-- The rows of runs.
-- restates: this project's own profile
use Rattle.std.specs.Prelude.{ℕ, List, ◌∷◌, ◌++◌, codes}
use Rattle.std.specs.List.{flat_map}
use Rattle.moment_core.specs.Printing.{text_of}
use Rattle.sched_state.specs.RunIds.{run_id_text}
use Rattle.sched_state.specs.declared.runs.RunPhase.{RunPhase}
use Rattle.sched_state.specs.declared.runs.RunPhase.TheVariants.{Queued, Running, Success, Failed}
use Rattle.sched_state.specs.declared.runs.Run.{Run}

abbrev pub phase_text : RunPhase → List ℕ
phase_text Queued = codes "queued"
phase_text Running = codes "running"
phase_text Success = codes "success"
phase_text Failed = codes "failed"

-- a blank and then a text
abbrev pub after_blank : List ℕ → List ℕ
after_blank text = 32 ∷ text

-- `DAG RUNID START END PHASE`
abbrev pub run_line : Run → List ℕ
run_line r = r.graph ++ after_blank (run_id_text r.kind r.logical) ++ after_blank (text_of r.interval.start)
    ++ after_blank (text_of r.interval.end) ++ after_blank (phase_text r.phase) ++ codes "\n"

-- a line for each run, and `ok`
abbrev pub runs_text : List Run → List ℕ
runs_text rs = flat_map run_line rs ++ codes "ok\n"
