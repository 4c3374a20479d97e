-- A list of events, each answered.
use Rattle.std.specs.Prelude.{◌≡◌, List, [], ◌∷◌, Result, Ok, Err}
use Rattle.sched_model.specs.Schedule.{Schedule}
use Rattle.sched_events.specs.Outcomes.{IsStepped}
use Rattle.sched_events.specs.declared.answers.Answer.{Answer}
use Rattle.sched_events.specs.declared.events.Event.{Event}
use Rattle.director.specs.Faults.{IsFaultOf}
use Rattle.director.specs.declared.faults.Fault.{Fault}

-- what is given for an event, and the schedule after it: its step with its answer, or a fault that stands, and the schedule is as it was
abbrev pub IsOutcome : Schedule → Event → Result Answer Fault → Schedule → Type 0
IsOutcome a e (Ok answer) b = IsStepped a e b answer
IsOutcome a e (Err fault) b = IsFaultOf a e fault × (b ≡ a)

-- what is given for each event of a list, one by one, and the schedule after them
abbrev pub Answers : Schedule → List Event → List (Result Answer Fault) → Schedule → Type 0
Answers a [] [] b = b ≡ a
Answers a (e ∷ es) (r ∷ rs) b = (next : Schedule) × IsOutcome a e r next × Answers next es rs b
Answers a [] (r ∷ rs) b = ⊥
Answers a (e ∷ es) [] b = ⊥

-- the events that were answered and not refused
abbrev pub accepted : List Event → List (Result Answer Fault) → List Event
accepted [] rs = []
accepted (e ∷ es) [] = []
accepted (e ∷ es) (Ok answer ∷ rs) = e ∷ accepted es rs
accepted (e ∷ es) (Err fault ∷ rs) = accepted es rs

-- the same of events of which nothing is given
abbrev pub AnswersSome : Schedule → List Event → Schedule → Type 0
AnswersSome a es b = (rs : List (Result Answer Fault)) × Answers a es rs b
