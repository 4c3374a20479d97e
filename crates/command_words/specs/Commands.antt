-- What the matches of each command say. Of several faults the first in the order of the words is answered.
-- restates: this project's own profile
use Rattle.std.specs.Prelude.{ℕ, Bool, true, false, if◌then◌else◌, List, codes, Option, Some, None, Result, Ok, bytes_eq}
use Rattle.clap.specs.Words.{Row, Text, first_of}
use Rattle.sched_events.specs.declared.events.Event.{Event}
use Rattle.sched_events.specs.declared.events.Event.TheVariants as event
use Rattle.command_words.specs.declared.commands.Question.{Question}
use Rattle.command_words.specs.declared.commands.UsageFault.{UsageFault}
use Rattle.command_words.specs.declared.commands.Listing.{Listing}
use Rattle.command_words.specs.declared.commands.Listing.TheVariants as listing
use Rattle.command_words.specs.declared.commands.GraphSource.{GraphSource}
use Rattle.command_words.specs.declared.commands.GraphSource.TheVariants.{File, Inline}
use Rattle.command_words.specs.declared.commands.TickTime.{TickTime}
use Rattle.command_words.specs.declared.commands.TickTime.TheVariants.{At, Now}
use Rattle.command_words.specs.declared.commands.Command.{Command}
use Rattle.command_words.specs.declared.commands.Command.TheVariants as command
use Rattle.command_words.specs.declared.kinds.CommandKind.{CommandKind}
use Rattle.command_words.specs.declared.kinds.CommandKind.TheVariants as kind
use Rattle.command_words.specs.declared.takings.Taking.{Taking}
use Rattle.command_words.specs.declared.takings.Taking.TheVariants as taking
use Rattle.command_words.specs.Values.{after, text_at, flag_at, number_at, name_at, moment_at, moment_of, some_name, skipped_of}

-- `list ROWS`
abbrev pub listing_of : Text → Listing
listing_of text =
    if bytes_eq text (codes "dags") then listing.Dags
    else (if bytes_eq text (codes "runs") then listing.Runs else (if bytes_eq text (codes "tasks") then listing.Tasks else listing.Pools))

-- the event that takes in a text so
abbrev pub taken : Taking → List ℕ → Event
taken taking.Load text = event.Load text
taken taking.Replace text = event.Replace text

-- `load PATH`, `replace PATH`; `inline` is no path
abbrev pub source_of : Text → GraphSource
source_of text = if bytes_eq text (codes "inline") then Inline else File text

abbrev pub take_in : Taking → List Row → Command
take_in how rows = command.Take how (source_of (text_at (codes "path") rows))

-- `tick MOMENT`; `now` is no moment
abbrev pub time_of : Text → Result TickTime UsageFault
time_of text = if bytes_eq text (codes "now") then Ok Now else after (moment_of text) (λ m. Ok (At m))

abbrev pub tick_of : Text → Result Command UsageFault
tick_of text = after (time_of text) (λ time. Ok (command.Tick time))

-- `run [--workers N] [--lanes N] [--scratch DIR] [--logs DIR]`
abbrev pub run_in : List Row → Command
run_in rows = command.Run (record {
  workers = number_at 1 16 (codes "workers") rows;
  lanes = number_at 0 64 (codes "lanes") rows;
  scratch = text_at (codes "scratch") rows;
  logs = first_of (codes "logs") rows;
})

-- the task instance of `DAG LOGICAL TASK`
abbrev pub question_in : List Row → Result Question UsageFault
question_in rows =
    after (name_at (codes "dag") rows) (λ dag. after (moment_at (codes "logical") rows) (λ logical. after (name_at (codes "task") rows)
    (λ task. Ok (record { graph = dag; logical = logical; task = task }))))

-- `explain DAG LOGICAL TASK`
abbrev pub explain_in : List Row → Result Command UsageFault
explain_in rows = after (question_in rows) (λ question. Ok (command.Explain question))

-- `trigger DAG`, `pause DAG`, `unpause DAG`
abbrev pub of_dag : (Text → Event) → List Row → Result Command UsageFault
of_dag event rows = after (name_at (codes "dag") rows) (λ dag. Ok (command.Step (event dag)))

-- `backfill DAG FROM TO [--reset]`
abbrev pub backfill_in : List Row → Result Command UsageFault
backfill_in rows =
    after (name_at (codes "dag") rows) (λ dag. after (moment_at (codes "from") rows) (λ from. after (moment_at (codes "to") rows)
    (λ to. Ok (command.Step (event.Backfill dag from to (flag_at (codes "reset") rows))))))

-- `clear DAG FROM TO [--task TASK] [--upstream] [--downstream] [--only-failed]`
abbrev pub cleared : List Row → Text → ℕ → ℕ → Option Text → Command
cleared rows dag from to task = command.Step (event.Clear (record {
  graph = dag;
  from = from;
  to = to;
  task = task;
  upstream = flag_at (codes "upstream") rows;
  downstream = flag_at (codes "downstream") rows;
  only_failed = flag_at (codes "only-failed") rows;
}))

abbrev pub clear_in : List Row → Result Command UsageFault
clear_in rows =
    after (name_at (codes "dag") rows) (λ dag. after (moment_at (codes "from") rows) (λ from. after (moment_at (codes "to") rows)
    (λ to. after (some_name (first_of (codes "task") rows)) (λ task. Ok (cleared rows dag from to task)))))

-- `mark DAG LOGICAL TASK skipped`: no other state can be given to a task instance by hand
abbrev pub mark_in : List Row → Result Command UsageFault
mark_in rows =
    after (question_in rows) (λ marked. after (skipped_of (text_at (codes "state") rows))
    (λ state. Ok (command.Step (event.Mark marked.graph marked.logical marked.task))))

-- `resize POOL SIZE`
abbrev pub resize_in : List Row → Result Command UsageFault
resize_in rows = after (name_at (codes "pool") rows) (λ pool. Ok (command.Step (event.Resize pool (number_at 0 1000000 (codes "size") rows))))

-- the command of a name
abbrev pub later_kind : Text → Option CommandKind
later_kind name =
    if bytes_eq name (codes "backfill") then Some kind.Backfill
    else (if bytes_eq name (codes "clear") then Some kind.Clear
    else (if bytes_eq name (codes "mark") then Some kind.Mark
    else (if bytes_eq name (codes "resize") then Some kind.Resize
    else (if bytes_eq name (codes "load") then Some kind.Load
    else (if bytes_eq name (codes "replace") then Some kind.Replace
    else (if bytes_eq name (codes "tick") then Some kind.Tick
    else (if bytes_eq name (codes "drain") then Some kind.Drain else None)))))))

abbrev pub kind_named : Text → Option CommandKind
kind_named name =
    if bytes_eq name (codes "run") then Some kind.Run
    else (if bytes_eq name (codes "list") then Some kind.List
    else (if bytes_eq name (codes "explain") then Some kind.Explain
    else (if bytes_eq name (codes "trigger") then Some kind.Trigger
    else (if bytes_eq name (codes "pause") then Some kind.Pause
    else (if bytes_eq name (codes "unpause") then Some kind.Unpause
    else later_kind name)))))

-- what the matches of a command say
abbrev pub command_in : CommandKind → List Row → Result Command UsageFault
command_in kind.Run rows = Ok (run_in rows)
command_in kind.List rows = Ok (command.List (listing_of (text_at (codes "rows") rows)))
command_in kind.Explain rows = explain_in rows
command_in kind.Trigger rows = of_dag event.Trigger rows
command_in kind.Pause rows = of_dag event.Pause rows
command_in kind.Unpause rows = of_dag event.Unpause rows
command_in kind.Backfill rows = backfill_in rows
command_in kind.Clear rows = clear_in rows
command_in kind.Mark rows = mark_in rows
command_in kind.Resize rows = resize_in rows
command_in kind.Load rows = Ok (take_in taking.Load rows)
command_in kind.Replace rows = Ok (take_in taking.Replace rows)
command_in kind.Tick rows = tick_of (text_at (codes "moment") rows)
command_in kind.Drain rows = Ok command.Drain

-- an event that words give: no graph's text and no tick, which have commands of their own, no report of a worker, and no restart
abbrev pub is_given : Event → Bool
is_given (event.Trigger id) = true
is_given (event.Backfill id from to reset) = true
is_given (event.Clear clearing) = true
is_given (event.Pause id) = true
is_given (event.Unpause id) = true
is_given (event.Resize pool size) = true
is_given (event.Mark dag logical task) = true
is_given _ = false

-- a command whose event, if it is one, is one that words give
abbrev pub is_of_words : Command → Bool
is_of_words (command.Step given) = is_given given
is_of_words _ = true
