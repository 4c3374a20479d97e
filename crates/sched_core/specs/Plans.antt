-- What is planned for an event.
use Rattle.std.specs.Prelude.{◌≡◌, [], false, None}
use Rattle.sched_model.specs.Schedule.{Schedule}
use Rattle.sched_events.specs.Causes.{refused}
use Rattle.sched_events.specs.Events.{IsInRange}
use Rattle.sched_events.specs.Steps.{step, answer_to}
use Rattle.sched_events.specs.declared.answers.Answer.{Answer}
use Rattle.sched_events.specs.declared.answers.RunId.{RunId}
use Rattle.sched_state.specs.declared.runs.Run.{Run}
use Rattle.sched_events.specs.declared.events.Event.{Event}
use Rattle.sched_core.specs.Changes.{Planned}

-- the event is within its ranges and accepted, and the change is its step, with its answer
pub record IsPlanned (a : Schedule) (e : Event) (c : Planned) : Type 0 where
  pub ranged : IsInRange e
  pub accepted : refused a e ≡ None
  pub before : c.before ≡ a
  pub after : c.after ≡ step e a
  pub answer : c.answer ≡ answer_to e a

-- which run this is
abbrev pub run_id : Run → RunId
run_id r = record { graph = r.graph; logical = r.logical; kind = r.kind }

-- the answer that names no run and no try, where nothing was set back
abbrev pub no_runs : Answer
no_runs = record { made = []; more = false; cleared = 0; jobs = [] }
