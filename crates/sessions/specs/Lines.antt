-- What a line is, and which steps it takes.
use Rattle.std.specs.Prelude.{◌≡◌, ℕ, Bool, true, List, [], ◌∷◌, ◌++◌, Option, Some, None, Result, Ok, Err}
use Rattle.sched_events.specs.Outcomes.{IsStepped}
use Rattle.sched_events.specs.declared.events.Event.{Event}
use Rattle.sched_events.specs.declared.events.Event.TheVariants.{Tick}
use Rattle.sched_model.specs.Schedule.{Schedule}
use Rattle.director.specs.Faults.{IsFaultOf}
use Rattle.director.specs.Written.{WrittenEvent}
use Rattle.director.specs.declared.faults.Fault.{Fault}
use Rattle.minutes.specs.Minutes.{is_of_line}
use Rattle.sessions.specs.History.{Asked, ArePolled, Step}
use Rattle.sessions.specs.declared.line_reading.Line.{Line}
use Rattle.sessions.specs.declared.line_reading.Line.TheVariants as Says

-- the line that was read, if one was
abbrev pub line_of : {F : Type 0} → Result (Option Line) F → Option Line
line_of (Ok next) = next
line_of (Err fault) = None

-- what may be read: an event of a line is no report and no restart
abbrev pub may_be_read : Line → Bool
may_be_read (Says.Event e) = is_of_line e
may_be_read Says.TickNow = true
may_be_read Says.Drain = true

-- The line takes what came of an event, after these steps: of its own, after none; or, where it says to tick now, of a tick, after the reports that were there
-- were heard and the clock was asked, which gave the moment of the tick.
abbrev pub Takes : Line → Event → List Step → Type 0
Takes (Says.Event x) e before = (x ≡ e) × (before ≡ [])
Takes Says.TickNow e before = (moment : ℕ) × (b : Schedule) × (polled : List Step) × (e ≡ Tick moment) × ArePolled polled × (before ≡ polled ++ Asked b (Ok moment) ∷ [])
Takes Says.Drain e before = ⊥

-- This is what came of an event, and the schedule stands so then: the event is written, at the schedule that the token has, and stepping it there leads to this
-- one; or this stands against it at this one.
abbrev pub IsCome : Event → Result WrittenEvent Fault → Schedule → Type 0
IsCome e (Ok w) b = (w.event ≡ e) × IsStepped w.before e b w.answer
IsCome e (Err fault) b = IsFaultOf b e fault

-- From one state of lines to another these steps more were told, while the one line waited before and the other after.
abbrev pub Tells : {L : Type 0} → (L → List Step → Option Line → L → Type 0) → Option Line → List Step → Option Line → L → L → Type 0
Tells {L} tells waited h waits l later = (s : L) (before : List Step) → tells s before waited l → tells s (before ++ h) waits later

-- nothing was told, whatever waits
abbrev pub TellsOn : {L : Type 0} → (L → List Step → Option Line → L → Type 0) → L → L → Type 0
TellsOn {L} tells l later = (s : L) (before : List Step) (waits : Option Line) → tells s before waits l → tells s before waits later
