-- What a run promises.
-- restates: this project's own profile
use Rattle.std.specs.Prelude.{◌≡◌, ◌==◌, ℕ, ◌<◌, Bool, true, List, [], length, Option, None, MatchResult, IfOk, IfErr, OnOk}
use Rattle.sqlite.specs.Held.{Held}
use Rattle.sqlite.specs.State.{State}
use Rattle.operators.specs.declared.kits.Kit.{Kit}
use Rattle.workers.specs.Accounted.{AreAmongTold}
use Rattle.workers.specs.Shows.{Shows}
use Rattle.sched_events.specs.SettledAndSound.{IsSoundAndSaid}
use Rattle.sched_events.specs.Steps.{steps, handed_along, AreAccepted}
use Rattle.sched_model.specs.States.{in_flight}
use Rattle.minutes.specs.Minutes.{BeginWithRestart}
use Rattle.sessions.specs.director.Leaves.{Leaves}
use Rattle.sessions.specs.History.{accepted, heard_in, tried_at_end, AreRight, Step}
use Rattle.sessions.specs.Runs.{DirectorValue, Follows}
use Rattle.sessions.specs.declared.line_reading.Line.{Line}
use Rattle.sessions.specs.declared.line_reading.LineFault.{LineFault}
use Rattle.conduct.specs.declared.conducting.Conducted.{Conducted}
use Rattle.conduct.specs.Ends.{EachStandsInALog, EachToldItsOwn, HaveWorkedFor}
use Rattle.conduct.specs.Faults.{EndsRun, came_to_its_end, is_no_worker, is_unstarted}
use Rattle.conduct.specs.Served.{IsHistory}

-- What came of a run: from a director, with so many lanes, and with these kits, one of each crew. Of the lines and the clock: how they came from their
-- first states to their last ones while the lines were told these steps, and which line waits then (are_told), or that they are as they were (untouched); what
-- the lines failed in, and whether they are over.
pub record IsConducted {S G O : Type 0} (look : Held S → State) (shows : Shows O) (lane_count : ℕ) (kits : List (Kit O)) (old : DirectorValue S) (run : Conducted S G O) (are_told : List Step → Option Line → Type 0) (untouched : Type 0) (failed : Option LineFault) (is_over : Bool) : Type 0 where
  -- the schedule at entry is sound: so of the tries that the minutes hand out no serial stands twice, and none goes past a pool or a bound
  pub sound : IsSoundAndSaid old.schedule.content
  -- with a fault too: what the run did, step by step, each right at the schedule that it came to. The lines were told the first of these steps, in their order,
  -- and the clock gave what they say; this line waits for its answer; and behind them are reports of which the lines were not told
  pub history : List Step
  pub steps_told : List Step
  pub last : List Step
  pub waits : Option Line
  pub parts : IsHistory lane_count history steps_told last
  pub right : AreRight history old.schedule.content
  pub told : are_told steps_told waits
  -- the minutes are its accepted events
  pub minutes : run.minutes.items ≡ accepted history
  -- with a fault too: the schedule is that of the minutes, each of which was accepted, and the record follows it; and whatever shut the record, its files may hold
  -- the schedule after the minutes, or after one event more that was tried behind them
  pub stepped : run.director.schedule.content ≡ steps run.minutes.items old.schedule.content
  pub accepted : AreAccepted run.minutes.items old.schedule.content
  pub followed : Follows old.schedule.content (look old.store) run.director.schedule.content (look run.director.store)
  pub left : Leaves run.minutes.items (tried_at_end history) old.schedule.content (look old.store) (look run.director.store)
  pub opened : run.director.opened ≡ old.opened
  -- the minutes begin with the restart, and have no other
  pub begun : BeginWithRestart lane_count run.minutes.items
  -- where the lines were followed to their end, they are over, none waits for its answer, and no try is in flight
  pub whole : came_to_its_end run.outcome ≡ true
      → (is_over ≡ true) × (waits ≡ None) × (0 < length run.minutes.items) × (in_flight run.director.schedule.content ≡ 0)
  -- why a run ended otherwise
  pub fault : MatchResult run.outcome (λ _. failed ≡ None) (λ f. EndsRun f failed)
  pub workers : MatchResult run.outcome (λ _. 0 < length kits) (λ f. is_no_worker f ≡ (length kits == 0))
  pub unstarted : IfErr run.outcome (λ f. is_unstarted f ≡ true → (history ≡ []) × untouched)
  -- with a fault too: each worker that came back told what its operators did, which did no job that was not handed out; and the minutes report nothing that
  -- none of them told
  pub worked : HaveWorkedFor shows kits run.ends.items run.minutes.items old.schedule.content
  -- with a fault too: no report of the history, missed or not, was heard more often than the workers told it
  pub heard : AreAmongTold (heard_in history) run.ends.items
  -- where it ended well: each try that was handed out stands in the log of one worker, as often as it was handed out, and no other does
  pub once : OnOk run.outcome (EachStandsInALog (handed_along run.minutes.items old.schedule.content) run.ends.items)
  -- what the minutes report of a worker's jobs is what that worker told, in its order
  pub own : OnOk run.outcome (EachToldItsOwn run.minutes.items run.ends.items)
  -- nothing is left at the desk
  pub desk : IfOk run.outcome (λ d. (d.slots ≡ 0) × (d.holds.items ≡ []))
