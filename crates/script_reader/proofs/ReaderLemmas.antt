-- What was done of a script, told of the states of its reader.
use Rattle.std.proofs.Common.{◌≡◌, ℕ, Bool, true, false, not, ◌&&◌, List, [], ◌∷◌, ◌++◌, Option, Some, None, is_some, Result, Err, is_ok, sym, subst}
use Rattle.sched_model.specs.Schedule.{Schedule}
use Rattle.sched_model.specs.States.{in_flight}
use Rattle.sched_events.specs.declared.answers.Answer.{Answer}
use Rattle.sched_events.specs.declared.events.Event.{Event}
use Rattle.answer_lines.specs.sessions.Faults.{Fault}
use Rattle.answer_lines.specs.sessions.History.{looks, ArePolled, AreReported, Asked, Looked, Step, Told}
use Rattle.answer_lines.specs.sessions.Lines.{Takes}
use Rattle.answer_lines.specs.sessions.declared.clocks.ClockFault.{ClockFault}
use Rattle.answer_lines.specs.sessions.declared.line_reading.Line.{Line}
use Rattle.answer_lines.specs.sessions.declared.line_reading.Line.TheVariants as Says
use Rattle.answer_lines.specs.sessions.declared.line_reading.LineFault.{LineFault}
use Rattle.answer_lines.specs.RunFaults.{clock_text}
use Rattle.answer_lines.specs.Shown.{shown_text}
use Rattle.answer_lines.specs.declared.shown.Shown.TheVariants.{Done as ShowsDone}
use Rattle.script_reader.specs.Answers.{IsPut}
use Rattle.script_reader.specs.Done.{FileAnswer}
use Rattle.script_reader.specs.Readers.{AreDone, DoMore, Tells}
use Rattle.script_reader.specs.Statuses.{shown_for, status_of}
use Rattle.script_reader.specs.declared.answers.Answers.{Answers}
use Rattle.script_reader.specs.declared.commands.CommandInput.{CommandInput}
use Rattle.script_reader.specs.declared.reader.ScriptReader.{ScriptReader}
use Rattle.script_reader.proofs.DoneLemmas.{closed, closed_drain, closed_more, closed_untold, ended_less}
use Rattle.script_reader.proofs.ShownLemmas.{first_of}

module _ {R W F P : Type 0} (remaining : R → Option (List ℕ)) (contents : W → Option (List ℕ)) (gives : F → List FileAnswer → F → Type 0) (s old : ScriptReader R W F P) where
  -- where it has failed in nothing
  sound : (steps : List Step) (waits : Option Line) → old.failed ≡ None → Tells remaining contents gives s steps waits old
      → AreDone remaining contents gives s steps waits old.commands old.answers old.sources false (old.is_over && not s.is_over)
  sound steps waits none h = subst (λ (o : Option LineFault). AreDone remaining contents gives s steps waits old.commands old.answers old.sources (is_some o) (old.is_over && not s.is_over)) none h

  -- the line that waits is answered
  module _ {T E : Type 0} (told : List Step) (answers : Answers W P) (put : Result T E) (failed : Option LineFault) (none : old.failed ≡ None) (fine : is_some failed ≡ false → is_ok put ≡ true) where
    pub answered_tells : (since : List Step) (line : Line) (e : Event) (q : Result Answer Fault) → IsPut contents (shown_for e q) (status_of q) put old.answers answers → Takes line e since
        → Tells remaining contents gives s told (Some line) old → Tells remaining contents gives s (told ++ (since ++ Told e q ∷ [])) None (record old { answers = answers; failed = failed })
    answered_tells since line e q p takes h =
        let was = sound told (Some line) none h in
        closed_more remaining contents gives s told line old.commands old.answers answers old.sources put (is_some failed) (old.is_over && not s.is_over) (since ++ Told e q ∷ []) (status_of q) (shown_for e q) fine was
        (closed line was.open_asked was.open_texts e q since was.opens takes) p

    pub untold_tells : (b : Schedule) (fault : ClockFault) (polled : List Step) → IsPut contents (clock_text fault) 4 put old.answers answers → ArePolled polled
        → Tells remaining contents gives s told (Some Says.TickNow) old → Tells remaining contents gives s (told ++ (polled ++ Asked b (Err fault) ∷ [])) None (record old { answers = answers; failed = failed })
    untold_tells b fault polled p are h =
        let was = sound told (Some Says.TickNow) none h in
        closed_more remaining contents gives s told Says.TickNow old.commands old.answers answers old.sources put (is_some failed) (old.is_over && not s.is_over) (polled ++ Asked b (Err fault) ∷ []) 4 (clock_text fault) fine was
        (closed_untold was.open_asked was.open_texts b fault polled are was.opens) p

    pub drained_tells : (a : Schedule) (heard : List Step) → IsPut contents (shown_text ShowsDone) 0 put old.answers answers → AreReported heard → in_flight a ≡ 0
        → Tells remaining contents gives s told (Some Says.Drain) old → Tells remaining contents gives s (told ++ (heard ++ Looked a ∷ [])) None (record old { answers = answers; failed = failed })
    drained_tells a heard p are idle h =
        let was = sound told (Some Says.Drain) none h in
        closed_more remaining contents gives s told Says.Drain old.commands old.answers answers old.sources put (is_some failed) (old.is_over && not s.is_over) (heard ++ looks 1 a) 0 (shown_text ShowsDone) fine was
        (closed_drain was.open_asked was.open_texts a heard are idle was.opens) p

  -- a line was read, or none was
  pub read_tells : (a : Schedule) (times : ℕ) (told : List Step) (waits : Option Line) (is_broken has_ended over : Bool) (failed : Option LineFault) (commands : CommandInput R) (answers : Answers W P) (sources : F)
      → DoMore remaining contents gives times a waits is_broken has_ended old.commands old.answers old.sources commands answers sources → old.failed ≡ None → is_some failed ≡ is_broken → (over ≡ true → has_ended ≡ true)
      → Tells remaining contents gives s told None old → Tells remaining contents gives s (told ++ looks times a) waits (record { commands = commands; answers = answers; sources = sources; failed = failed; is_over = over })
  read_tells a times told waits is_broken has_ended over failed commands answers sources more none same ends h =
      subst (λ (b : Bool). AreDone remaining contents gives s (told ++ looks times a) waits commands answers sources b (over && not s.is_over)) (sym same)
      (ended_less remaining contents gives s (told ++ looks times a) waits commands answers sources is_broken has_ended (over && not s.is_over) (λ both. ends (first_of over (not s.is_over) both))
      (more s told (old.is_over && not s.is_over) (sound told None none h)))
