-- What the core's own functions say of repairs.
use Rattle.std.specs.Prelude.{◌≡◌, ℕ, Bool, true, false, List, Option, Some, None, option_map, option_and_then, Result, Ok, Err, ◌⊎◌}
use Rattle.sched_clearing.specs.declared.marking.MarkFault.{MarkFault}
use Rattle.sched_clearing.specs.declared.marking.MarkFault.TheVariants as marks
use Rattle.sched_clearing.specs.declared.selections.ClearFault.{ClearFault}
use Rattle.sched_clearing.specs.declared.selections.ClearFault.TheVariants as fault
use Rattle.sched_model.specs.Causes.{least_in_flight}
use Rattle.sched_model.specs.Clearing.{Selection, reset_by}
use Rattle.sched_model.specs.Marking.{mark}
use Rattle.sched_model.specs.Schedule.{Schedule}
use Rattle.sched_events.specs.Causes.{refused}
use Rattle.sched_events.specs.Events.{set_back, count_in}
use Rattle.sched_events.specs.Outcomes.{IsRefusal}
use Rattle.sched_events.specs.declared.events.Event.TheVariants.{Mark}
use Rattle.sched_events.specs.declared.refusals.Refusal.{Refusal}
use Rattle.sched_events.specs.declared.refusals.Refusal.TheVariants as refusal

-- the refusal for a fault of a clear
abbrev pub clear_refusal : ClearFault → Refusal
clear_refusal fault.UnknownGraph = refusal.UnknownGraph
clear_refusal fault.UnknownTask = refusal.UnknownTask
clear_refusal fault.Memory = refusal.Memory

-- the refusal for a fault of a mark
abbrev pub mark_refusal : MarkFault → Refusal
mark_refusal marks.UnknownGraph = refusal.UnknownGraph
mark_refusal marks.UnknownTask = refusal.UnknownTask
mark_refusal (marks.InFlight serial) = refusal.InFlight serial
mark_refusal marks.UnknownRun = refusal.UnknownRun
mark_refusal marks.Memory = refusal.Memory

-- nothing stands against the mark, and it is made; or it is refused
abbrev pub IsMark : Schedule → List ℕ → ℕ → List ℕ → Schedule → Result (Unit {0}) Refusal → Type 0
IsMark a id date task b (Ok done) = (refused a (Mark id date task) ≡ None) × (b ≡ mark id date task a)
IsMark a id date task b (Err r) = IsRefusal a (Mark id date task) r

-- what a backfill resets: all instances of a graph's runs with some dates, or nothing
abbrev pub reset_of : Bool → List ℕ → List ℕ → Option Selection
reset_of true id dates = Some (reset_by id dates)
reset_of false id dates = None

-- the least serial of the tries without an end of what is named, as a refusal
abbrev pub still_open : Option Selection → Schedule → Option Refusal
still_open named a = option_map refusal.InFlight (option_and_then (least_in_flight a) named)

-- what is named has been set back, so many of it were not none, and none of it had a try without an end; or memory ran out, or one had
abbrev pub IsSetBack : Option Selection → Schedule → Schedule → Result ℕ Refusal → Type 0
IsSetBack named a b (Ok count) = (still_open named a ≡ None) × (b ≡ set_back named a) × (count ≡ count_in named a)
IsSetBack named a b (Err r) = (r ≡ refusal.Memory) ⊎ (still_open named a ≡ Some r)
