-- What a run says beside the lines of its script.
use Rattle.std.specs.Prelude.{◌≡◌, ℕ, Bool, true, List, [], ◌++◌, map, flat_map, All, Option, Some, None, Result, is_ok}
use Rattle.sched_events.specs.declared.events.Event.{Event}
use Rattle.script_commands.specs.Commands.{Request, commands_in}
use Rattle.sched_model.specs.Schedule.{Schedule}
use Rattle.minutes.specs.Minutes.{answered}
use Rattle.conduct.specs.sessions.History.{accepted, readings_in, told_in, AreRight, Step}
use Rattle.conduct.specs.sessions.Readings.{Reading}
use Rattle.conduct.specs.sessions.declared.faults.ConductFault.{ConductFault}
use Rattle.conduct.specs.sessions.declared.line_reading.Line.{Line}
use Rattle.conduct.specs.Faults.{came_to_its_end}
use Rattle.conduct.specs.Served.{IsHistory}
use Rattle.script_reader.specs.Done.{FileAnswer, Done, IsDone, IsOpen, greatest_status, is_whole}
use Rattle.script_reader.specs.Ends.{end_status, last_text}

-- The events that are answered in these minutes, from this schedule on, are, in order, those that the commands of a script name, of these bytes, where they
-- are known. A command that is answered when it is read is answered of the schedule of the minutes up to it, and an event
-- that was not accepted has its cause there; a drain is answered of the schedule of minutes up to it in which no try is in flight. All of this is behind the
-- restart. Reports stand in the minutes where a drain waited, before a `tick now`, and behind the last command, and nowhere else. For each `load PATH` and
-- `replace PATH` the sources were asked once, for its path, and for nothing else: the text that is taken in, or the fault that is shown, is the next that
-- they gave. A moment of `tick now` is the next that the clock gave. Where the run came to its end, all commands are done; where it did not, one that was
-- read may still wait for its answer. Where all that was put is written (told), and so it is where the run ended well, the output has grown by what shows each
-- command, in their order, and then by the line of the fault, if it ended with one. The status is the greatest of what was done, where the run ended well, that of
-- its fault otherwise, and 4 where not all is written; where it is 0, the event of each command is there.
-- restates: this project's own profile
pub record AreNamed {T : Type 0} (bytes : Option (List ℕ)) (sources : List FileAnswer → Type 0) (clock : List (Schedule × Reading) → Type 0) (output : List ℕ → Type 0) (lanes : ℕ) (first : Schedule) (minutes : List Event) (outcome : Result T ConductFault) (told : Bool) (status : ℕ) : Type 0 where
  pub done : List Done
  pub each : All IsDone done
  -- the command that was read and is not done, if there is one, and what the sources answered for it
  pub waits : Option Line
  pub open_asked : List Request
  pub open_texts : List FileAnswer
  pub opens : IsOpen waits open_asked open_texts
  pub none_waits : came_to_its_end outcome ≡ true → waits ≡ None
  pub texts : sources (flat_map (λ d. d.texts) done ++ open_texts)
  -- what the clock gave is what the steps say, in order, each at its schedule: for each `tick now` the reports that were there were heard, then the clock was
  -- asked, and then the tick was told
  pub readings : clock (readings_in (flat_map (λ d. d.steps) done))
  -- what the run did, step by step: behind the restart the steps of the commands, one after another, and then reports. Each is right at the schedule that it
  -- came to, and the minutes are its accepted events; so the events that were told as accepted are those that the minutes answer
  pub history : List Step
  pub last : List Step
  pub parts : IsHistory lanes history (flat_map (λ d. d.steps) done) last
  pub right : AreRight history first
  pub made : minutes ≡ accepted history
  pub answers_are : answered minutes first ≡ flat_map (λ d. told_in d.steps) done
  pub shown : told ≡ true → output (flat_map (λ d. d.shown) done ++ last_text outcome)
  pub all_told : is_ok outcome ≡ true → told ≡ true
  pub read : (known : List ℕ) → bytes ≡ Some known
      → (rest : List Request) × (commands_in known ≡ map (λ d. d.asked) done ++ (open_asked ++ rest))
      × (came_to_its_end outcome ≡ true → (open_asked ≡ []) × (rest ≡ []))
  pub ended : status ≡ end_status told (greatest_status done) outcome
  pub whole : status ≡ 0 → All (λ d. is_whole d.asked d.steps ≡ true) done
