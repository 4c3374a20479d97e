-- What the run of a script promises.
use Rattle.std.specs.Prelude.{◌≡◌, ◌==◌, ◌++◌, ℕ, ◌<◌, Bool, true, List, [], length, Option, None, Result, is_ok, IfErr, IfOk, IsTrue, MatchResult, OnOk}
use Rattle.sqlite.specs.Held.{Held}
use Rattle.sqlite.specs.Effect.{Database}
use Rattle.sqlite.specs.State.{State, HasCleanDisk}
use Rattle.sqlite.specs.Tree.{Trees}
use Rattle.operators.specs.declared.kits.Kit.{Kit}
use Rattle.record_rows.specs.Rows.{Rows}
use Rattle.sched_state.specs.Limits.{ceilings}
use Rattle.sched_model.specs.Schedule.{Schedule}
use Rattle.sched_model.specs.States.{in_flight}
use Rattle.sched_events.specs.SettledAndSound.{IsSoundAndSaid}
use Rattle.sched_events.specs.Steps.{steps, handed_along, AreAccepted}
use Rattle.sched_events.specs.declared.answers.Answer.{Answer}
use Rattle.sched_events.specs.declared.events.Event.{Event}
use Rattle.conduct.specs.sessions.director.Directors.{Keeps, Opens, StaysOpen}
use Rattle.conduct.specs.sessions.director.Leaves.{IsOneOf}
use Rattle.conduct.specs.sessions.History.{heard_in, tried_at_end}
use Rattle.conduct.specs.sessions.director.meta_store.Stores.{HasRows}
use Rattle.minutes.specs.Minutes.{BeginWithRestart}
use Rattle.conduct.specs.sessions.Readings.{Reading}
use Rattle.conduct.specs.sessions.declared.faults.ConductFault.{ConductFault}
use Rattle.conduct.specs.sessions.declared.line_reading.LineFault.{LineFault}
use Rattle.slot_desk.specs.declared.desk.Total.{Total}
use Rattle.workers.specs.declared.crews.WorkerEnd.{WorkerEnd}
use Rattle.workers.specs.Accounted.{AreAmongTold}
use Rattle.workers.specs.Shows.{Shows}
use Rattle.conduct.specs.Ends.{EachStandsInALog, EachToldItsOwn, HaveWorkedFor}
use Rattle.conduct.specs.Faults.{EndsRun, came_to_its_end, is_no_worker, is_unstarted}
use Rattle.script_reader.specs.Done.{FileAnswer}
use Rattle.script_runner.specs.Named.{AreNamed}

-- A script of these bytes was run with so many lanes and these kits on what a record held before: what the record is now, the minutes, what became of the
-- crews, whether all that was put is written (told), and the status. The sources and the clock gave what their relations say, or were asked nothing
-- (untouched); the output has grown as its relation says.
-- restates: this project's own profile
pub record IsRun {S G O : Type 0} (look : Held S → State) (shows : Shows O) (bytes : Option (List ℕ)) (sources : List FileAnswer → Type 0) (clock : List (Schedule × Reading) → Type 0) (output : List ℕ → Type 0) (untouched : Type 0) (lanes : ℕ) (kits : List (Kit O)) (before : State) (store : Held S) (minutes : List Event) (ends : List (WorkerEnd G O)) (outcome : Result Total ConductFault) (told : Bool) (status : ℕ) : Type 0 where
  -- the schedule that was opened, without lanes, and the answer to its restart
  pub first : Schedule
  pub given : Answer
  pub opened : HasCleanDisk (look store) → Opens ceilings 0 before.now first given
  -- it follows the rules of schedules, whatever the disk gave
  pub sound : IsSoundAndSaid first
  -- each of the minutes was accepted, one after another; they begin with the restart, and have no other. With a fault they may be none
  pub accepted : AreAccepted minutes first
  pub begun : BeginWithRestart lanes minutes
  pub started : came_to_its_end outcome ≡ true → 0 < length minutes
  -- a disk that has given back what was written has done so all the time
  pub was_clean : HasCleanDisk (look store) → HasCleanDisk before
  -- the record is open, unless its disk failed or refused meanwhile; and where it is, and had rows, in either version, it stores the schedule after the
  -- minutes
  pub stays : StaysOpen before (look store)
  pub stored : HasCleanDisk (look store) → IsTrue (look store).is_open → (rows : Rows) → HasRows before.now rows → Keeps (steps minutes first) (look store).now
  -- those that are no report and no restart, with their answers, are what the script's lines name; what is shown is of these; and the status is that of what
  -- was done and of the end
  pub named : AreNamed bytes sources clock output lanes first minutes outcome told status
  -- whatever shut the record: where it had rows, in either version, a crash leaves of it the schedule after the minutes, or after one event more that was tried
  -- behind them
  pub left : HasCleanDisk (look store) → (rows : Rows) → HasRows before.now rows → (trees : Trees) → (look store).may_leave trees
      → (one : List Event) × IsOneOf one (tried_at_end named.history) × (db : Database) × Keeps (steps (minutes ++ one) first) db × (trees ≡ db.trees)
  -- where the status is 0, the run ended well
  pub well : status ≡ 0 → is_ok outcome ≡ true
  -- why it ended otherwise, by what the script failed in, if it did; there is no worker where there is no kit; and where no event was stepped, nothing was
  -- asked
  pub failed : Option LineFault
  pub fault : MatchResult outcome (λ _. failed ≡ None) (λ f. EndsRun f failed)
  pub workers : MatchResult outcome (λ _. 0 < length kits) (λ f. is_no_worker f ≡ (length kits == 0))
  pub unstarted : IfErr outcome (λ f. is_unstarted f ≡ true → (minutes ≡ []) × untouched)
  -- with a fault too: each worker that came back told what its operators did, which did no job that was not handed out; and the minutes report nothing that
  -- none of them told
  pub worked : HaveWorkedFor shows kits ends minutes first
  -- with a fault too: no report of the history, missed or not, was heard more often than the workers told it
  pub heard : AreAmongTold (heard_in named.history) ends
  -- where the run ended well: no try is in flight; each try that was handed out stands in the log of one worker, as often as it was handed out, and no
  -- other does; and what the minutes report of a worker's jobs is what that worker told, in its order
  pub idle : OnOk outcome (in_flight (steps minutes first) ≡ 0)
  pub once : OnOk outcome (EachStandsInALog (handed_along minutes first) ends)
  pub own : OnOk outcome (EachToldItsOwn minutes ends)
  -- nothing is left at the desk
  pub desk : IfOk outcome (λ d. (d.slots ≡ 0) × (d.holds.items ≡ []))
