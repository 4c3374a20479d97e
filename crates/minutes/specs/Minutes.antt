-- What the minutes of a run say. They are the events that were accepted in it, in their order, from a schedule on.
-- restates: this project's own profile
use Rattle.std.specs.Prelude.{◌≡◌, ◌==◌, ℕ, Bool, true, false, List, [], ◌∷◌, ◌++◌, filter, flat_map, All}
use Rattle.std.specs.List.{list_any}
use Rattle.ruled_dispatch.specs.declared.items.Report.{Report as WorkReport}
use Rattle.sched_events.specs.Steps.{step, answer_to}
use Rattle.sched_events.specs.declared.answers.Answer.{Answer}
use Rattle.sched_events.specs.declared.events.Event.{Event}
use Rattle.sched_events.specs.declared.events.Event.TheVariants.{Report, Restart}
use Rattle.sched_model.specs.Schedule.{Schedule}

-- what f says of each event, at the schedule that it comes to, one after another
abbrev pub along : {B : Type 0} → (Event → Schedule → List B) → List Event → Schedule → List B
along f [] a = []
along f (e ∷ es) a = f e a ++ along f es (step e a)

-- the event is a restart
abbrev pub is_restart : Event → Bool
is_restart (Restart lanes) = true
is_restart _ = false

-- what a worker reports by the event, if it is a report
abbrev pub report_part : Event → List WorkReport
report_part (Report serial stage) = record { serial = serial; stage = stage } ∷ []
report_part _ = []

-- the event is none of a line: a worker reports it, or it is a restart
abbrev pub is_of_line : Event → Bool
is_of_line (Report serial stage) = false
is_of_line (Restart lanes) = false
is_of_line _ = true

-- the events that lines name
abbrev pub of_lines : List Event → List Event
of_lines es = filter is_of_line es

-- the event with its answer, if a line names it
abbrev pub answered_part : Event → Schedule → List (Event × Answer)
answered_part e a = filter (λ p. is_of_line p.0) ((e, answer_to e a) ∷ [])

-- the events that lines name, each with its answer
abbrev pub answered : List Event → Schedule → List (Event × Answer)
answered es a = along answered_part es a

-- what workers report
abbrev pub reports_in : List Event → List WorkReport
reports_in es = flat_map report_part es

-- the number is among these
abbrev pub is_among : List ℕ → ℕ → Bool
is_among xs x = list_any (λ y. y == x) xs

-- of what workers report, what is of tries with these serials
abbrev pub of_worker : List ℕ → List Event → List WorkReport
of_worker serials es = filter (λ r. is_among serials r.serial) (reports_in es)

-- there are none, or the first is a restart with so many lanes, and no other is a restart
abbrev pub BeginWithRestart : ℕ → List Event → Type 0
BeginWithRestart lanes [] = Unit {0}
BeginWithRestart lanes (e ∷ es) = (e ≡ Restart lanes) × All (λ x. is_restart x ≡ false) es
