-- What the text of a schedule says: `None`, `@once`, or a cron text; and what the word of its timetable makes of it.
use Rattle.std.specs.Prelude.{ℕ, zero, suc, Bool, false, ◌||◌, if◌then◌else◌, List, [], ◌∷◌, map, Option, Some, None, option_and_then, Result, Ok, Err, bytes_eq, codes}
use Rattle.std.specs.Result.{result_err}
use Rattle.toml.specs.Data.{Data, Members, as_str}
use Rattle.moment_core.specs.Moments.{seconds_end}
use Rattle.cron_timetable.specs.Fields.{Fields, fires}
use Rattle.cron_timetable.specs.Grammar.{fields_of}
use Rattle.cron_timetable.specs.declared.faults.CronFault.{CronFault}
use Rattle.cron_timetable.specs.declared.faults.CronFault.TheVariants.{NeverFires}
use Rattle.cron_timetable.specs.declared.timetables.Timetable.{Timetable}
use Rattle.cron_timetable.specs.declared.timetables.Timetable.TheVariants.{Cron, Trigger, Once, Never}
use Rattle.graph_file.specs.Lists.{when, first_some}
use Rattle.graph_file.specs.Keys.{row_of}
use Rattle.graph_file.specs.Tables.{member_at}
use Rattle.graph_file.specs.declared.keys.Key.{Key}
use Rattle.graph_file.specs.declared.keys.Role.{Role}
use Rattle.graph_file.specs.declared.keys.Role.TheVariants as role
use Rattle.graph_file.specs.declared.schedules.CronTimetable.{CronTimetable}
use Rattle.graph_file.specs.declared.schedules.CronTimetable.TheVariants as cron

-- some second before the n-th fires. It is never computed
-- a graph's cron text fires at some second before the end of moments
-- restates: Airflow 2, `schedule`
unfoldable pub fires_before : ℕ → Fields → Bool
fires_before zero c = false
fires_before (suc n) c = fires c n || fires_before n c

-- the fields, if they fire at some moment
abbrev pub firing : Result Fields CronFault → Result Timetable CronFault
firing (Ok c) = if fires_before seconds_end c then Ok (Cron c) else Err NeverFires
firing (Err e) = Err e

-- the timetable of a text, or why a cron text is refused. Only a cron text has blanks ignored at its ends
-- restates: Airflow 2, `schedule`
abbrev pub timetable_of : List ℕ → Result Timetable CronFault
timetable_of s =
    if bytes_eq s (codes "None") then Ok Never
    else if bytes_eq s (codes "@once") then Ok Once
    else firing (fields_of s)

-- the timetable of a cron text that a word names
-- restates: Airflow 2, 'Timetables': `CronDataIntervalTimetable`, `CronTriggerTimetable`
abbrev pub cron_timetable_of : List ℕ → Option CronTimetable
cron_timetable_of s = first_some (
    when (bytes_eq s (codes "interval")) cron.Interval
    ∷ when (bytes_eq s (codes "trigger")) cron.Trigger
    ∷ [])

-- a schedule with this timetable of a cron text: a trigger timetable has a run at each tick
-- restates: Airflow 2, 'Timetables': `CronDataIntervalTimetable`, `CronTriggerTimetable`
abbrev pub with_timetable : CronTimetable → Timetable → Timetable
with_timetable cron.Trigger (Cron c) = Trigger c
with_timetable _ x = x

-- the schedule is one of the two that have no ticks
abbrev pub is_without_ticks : List ℕ → Bool
is_without_ticks s = bytes_eq s (codes "None") || bytes_eq s (codes "@once")

-- a run at each tick is wanted of a schedule without ticks
abbrev pub lacks_ticks : Option CronTimetable → List ℕ → Bool
lacks_ticks (Some cron.Trigger) s = is_without_ticks s
lacks_ticks _ s = false

-- why the value of a schedule is refused, if it is
abbrev pub schedule_fault : Role → Data → Option CronFault
schedule_fault role.Schedule d = option_and_then (λ s. result_err (timetable_of s)) (as_str d)
schedule_fault _ d = None

abbrev pub cron_fault_at : Members → Key → Option CronFault
cron_fault_at t k = option_and_then (schedule_fault (row_of k).role) (member_at k t)

-- the first of them at these keys
abbrev pub cron_fault : List Key → Members → Option CronFault
cron_fault keys t = first_some (map (cron_fault_at t) keys)
