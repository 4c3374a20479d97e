-- The lines of an answer.
-- restates: this project's own profile
use Rattle.std.specs.Prelude.{ℕ, Bool, true, false, List, [], ◌++◌, codes, if◌then◌else◌}
use Rattle.std.specs.Fmt.{decimal}
use Rattle.std.specs.List.{flat_map}
use Rattle.sched_state.specs.RunIds.{run_id_text}
use Rattle.answer_lines.specs.Runs.{after_blank}
use Rattle.answer_lines.specs.Jobs.{job_line}
use Rattle.sched_events.specs.declared.answers.RunId.{RunId}
use Rattle.sched_events.specs.declared.answers.Answer.{Answer}
use Rattle.sched_events.specs.declared.events.Event.{Event}
use Rattle.sched_events.specs.declared.events.Event.TheVariants.{Backfill, Clear}

-- `made DAG RUNID`
abbrev pub made_line : RunId → List ℕ
made_line id = codes "made " ++ id.graph ++ after_blank (run_id_text id.kind id.logical) ++ codes "\n"

-- `more`, where some are left
abbrev pub more_text : Bool → List ℕ
more_text more = if more then codes "more\n" else []

-- the events that set task instances back: a clear, and a backfill with a reset
abbrev pub sets_back : Event → Bool
sets_back (Clear c) = true
sets_back (Backfill id from to reset) = reset
sets_back _ = false

-- `cleared N`, of such an event, be N 0 or not
abbrev pub cleared_line : ℕ → List ℕ
cleared_line n = codes "cleared " ++ decimal n ++ codes "\n"

abbrev pub cleared_text : Event → ℕ → List ℕ
cleared_text e n = if sets_back e then cleared_line n else []

-- the answer to an event: a line for each run made, how many instances were set back if that is what it does, `more` where some are
-- left, a line for each try handed out, and `ok`
abbrev pub answer_text : Event → Answer → List ℕ
answer_text e a = flat_map made_line a.made ++ cleared_text e a.cleared ++ more_text a.more ++ flat_map job_line a.jobs ++ codes "ok\n"
