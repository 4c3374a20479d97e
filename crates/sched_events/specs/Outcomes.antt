-- Why an event is refused, as it is shown, and the outcome of a step.
use Rattle.std.specs.Prelude.{◌≡◌, ◌⊎◌, ℕ, List, None, Some, Ok}
use Rattle.graph_file.specs.Graphs.{graph_of}
use Rattle.graph_file.specs.declared.graph_specs.GraphSpec.{GraphSpec}
use Rattle.dag_check.specs.Faults.{Stands, without_names}
use Rattle.dag_check.specs.declared.faults.DagFault.{DagFault}
use Rattle.dag_check.specs.declared.faults.DagFault.TheVariants as fault
use Rattle.pool_book.specs.declared.pools.PoolFault.{PoolFault}
use Rattle.pool_book.specs.declared.pools.PoolFault.TheVariants as pool
use Rattle.run_planner.specs.declared.by_hand.PlanFault.{PlanFault}
use Rattle.run_planner.specs.declared.by_hand.PlanFault.TheVariants as plan
use Rattle.sched_laws.specs.sched_model.Schedule.{Schedule}
use Rattle.sched_events.specs.Causes.{refused}
use Rattle.sched_events.specs.Events.{IsInRange}
use Rattle.sched_events.specs.Steps.{step, answer_to}
use Rattle.sched_events.specs.declared.answers.Answer.{Answer}
use Rattle.sched_events.specs.declared.events.Event.{Event}
use Rattle.sched_events.specs.declared.events.Event.TheVariants.{Load, Replace}
use Rattle.sched_events.specs.declared.refusals.Refusal.{Refusal}
use Rattle.sched_events.specs.declared.refusals.Refusal.TheVariants as refusal

-- the refusal for a fault of a graph
abbrev pub refusal_of : DagFault → Refusal
refusal_of (fault.DoubleTask i) = refusal.DagFault (fault.DoubleTask i)
refusal_of (fault.UnknownUpstream i) = refusal.DagFault (fault.UnknownUpstream i)
refusal_of (fault.DoubleEdge i) = refusal.DagFault (fault.DoubleEdge i)
refusal_of (fault.Cycle names) = refusal.DagFault (fault.Cycle names)
refusal_of fault.Memory = refusal.Memory

-- the refusal for a fault of a pool
abbrev pub refusal_of_pool : PoolFault → Refusal
refusal_of_pool pool.TooManyPools = refusal.PoolFault pool.TooManyPools
refusal_of_pool pool.Memory = refusal.Memory

-- the refusal for a reason against a run by hand
abbrev pub refusal_of_plan : PlanFault → Refusal
refusal_of_plan plan.RunExists = refusal.RunExists
refusal_of_plan plan.NoInterval = refusal.NoInterval

-- the event is within its ranges and accepted, the schedule after it is its step, and this is its answer
pub record IsStepped (a : Schedule) (e : Event) (b : Schedule) (given : Answer) : Type 0 where
  pub ranged : IsInRange e
  pub accepted : refused a e ≡ None
  pub after : b ≡ step e a
  pub answer : given ≡ answer_to e a

-- a refusal, and of a cycle that there is one
abbrev pub unnamed : Refusal → Refusal
unnamed (refusal.GraphFault fault) = refusal.GraphFault fault
unnamed (refusal.DagFault fault) = refusal.DagFault (without_names fault)
unnamed (refusal.UnknownPool pool) = refusal.UnknownPool pool
unnamed refusal.TooManyGraphs = refusal.TooManyGraphs
unnamed refusal.GraphDiffers = refusal.GraphDiffers
unnamed refusal.UnknownGraph = refusal.UnknownGraph
unnamed refusal.UnknownTask = refusal.UnknownTask
unnamed (refusal.ClockBack moment) = refusal.ClockBack moment
unnamed refusal.BadSpan = refusal.BadSpan
unnamed refusal.RunExists = refusal.RunExists
unnamed refusal.NoInterval = refusal.NoInterval
unnamed (refusal.InFlight serial) = refusal.InFlight serial
unnamed (refusal.NotInFlight serial) = refusal.NotInFlight serial
unnamed (refusal.OutOfTurn serial) = refusal.OutOfTurn serial
unnamed (refusal.PoolFault fault) = refusal.PoolFault fault
unnamed refusal.LanesTooMany = refusal.LanesTooMany
unnamed refusal.RecordFull = refusal.RecordFull
unnamed (refusal.OtherTasks task) = refusal.OtherTasks task
unnamed (refusal.OtherSlots task) = refusal.OtherSlots task
unnamed (refusal.Redoes moment) = refusal.Redoes moment
unnamed refusal.UnknownRun = refusal.UnknownRun
unnamed refusal.Memory = refusal.Memory

-- the fault of a graph stands in the file that the text says, with the cycle that it shows
abbrev pub StandsIn : List ℕ → DagFault → Type 0
StandsIn text fault = (spec : GraphSpec) × (graph_of text ≡ Ok spec) × Stands spec.tasks fault

abbrev pub IsShown : Event → Refusal → Type 0
IsShown (Load text) (refusal.DagFault fault) = StandsIn text fault
IsShown (Replace text) (refusal.DagFault fault) = StandsIn text fault
IsShown e r = Unit {0}

-- the refusal is the first cause that stands against the event
pub record IsCause (a : Schedule) (e : Event) (r : Refusal) : Type 0 where
  pub first : refused a e ≡ Some (unnamed r)
  pub shown : IsShown e r

-- want of memory, or the first cause that stands against the event
abbrev pub IsRefusal : Schedule → Event → Refusal → Type 0
IsRefusal a e r = (r ≡ refusal.Memory) ⊎ IsCause a e r
