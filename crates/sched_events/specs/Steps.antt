-- The step that an accepted event makes, and its answer.
use Rattle.std.specs.Prelude.{◌≡◌, List, [], ◌∷◌, ◌++◌, map, flat_map, None}
use Rattle.sched_state.specs.declared.jobs.Job.{Job}
use Rattle.sched_laws.specs.sched_model.Schedule.{Schedule}
use Rattle.sched_laws.specs.sched_model.NamedRuns.{NamedRun}
use Rattle.sched_laws.specs.sched_model.Changes.{advance}
use Rattle.sched_laws.specs.sched_model.Jobs.{handed}
use Rattle.sched_events.specs.Events.{named_by, leaves_more_by, set_back_by, count_in, change_by, IsInRange}
use Rattle.sched_events.specs.Causes.{refused}
use Rattle.sched_events.specs.declared.answers.RunId.{RunId}
use Rattle.sched_events.specs.declared.answers.Answer.{Answer}
use Rattle.sched_events.specs.declared.events.Event.{Event}

-- the schedule after an accepted event: its own change, with the runs that it names, settled, and handed out
unfoldable pub step : Event → Schedule → Schedule
step e a = advance (named_by e a) (change_by e a)

-- a list of events, one after another
abbrev pub steps : List Event → Schedule → Schedule
steps [] a = a
steps (e ∷ es) a = steps es (step e a)

-- each of the events is accepted at the schedule that it comes to
abbrev pub AreAccepted : List Event → Schedule → Type 0
AreAccepted [] a = Unit {0}
AreAccepted (e ∷ es) a = IsInRange e × (refused a e ≡ None) × AreAccepted es (step e a)

-- the runs that a list of events names, each at the schedule that it comes to
abbrev pub named_along : List Event → Schedule → List NamedRun
named_along [] a = []
named_along (e ∷ es) a = named_by e a ++ named_along es (step e a)

abbrev pub id_of : NamedRun → RunId
id_of n = record { graph = n.graph; logical = n.logical; kind = n.kind }

-- what an accepted event answers: the runs made, whether some are left for the next event of its kind, how many
-- of the instances that were set back were not none, and the tries handed out
abbrev pub answer_to : Event → Schedule → Answer
answer_to e a = record { made = map id_of (named_by e a); more = leaves_more_by e a; cleared = count_in (set_back_by e a) a; jobs = handed a (step e a) }

-- the answers to a list of events, each at the schedule that it comes to, and the tries that they hand out
abbrev pub answers_along : List Event → Schedule → List Answer
answers_along [] a = []
answers_along (e ∷ es) a = answer_to e a ∷ answers_along es (step e a)

abbrev pub handed_along : List Event → Schedule → List Job
handed_along es a = flat_map (λ (answer : Answer). answer.jobs) (answers_along es a)
