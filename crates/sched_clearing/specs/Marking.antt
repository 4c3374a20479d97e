-- Why a mark is not made, and what it makes.
use Rattle.std.specs.Prelude.{◌≡◌, ◌⊎◌, ℕ, not, List, [], ◌∷◌, Option, None, Some, option_map, Result, Ok, Err}
use Rattle.graph_file.specs.Lists.{first_some, when}
use Rattle.trigger_rules.specs.declared.verdicts.Verdict.TheVariants as verdict
use Rattle.sched_state.specs.declared.clearings.Clearing.{Clearing}
use Rattle.sched_model.specs.Causes.{is_unknown_graph, is_unknown_task, least_in_flight}
use Rattle.sched_model.specs.Clearing.{cleared_by, set_named}
use Rattle.sched_model.specs.Marking.{mark, one_of}
use Rattle.sched_model.specs.Schedule.{Schedule, has_run_at}
use Rattle.sched_clearing.specs.declared.marking.MarkFault.{MarkFault}
use Rattle.sched_clearing.specs.declared.marking.MarkFault.TheVariants as fault
use Rattle.sched_clearing.specs.declared.selections.ClearFault.{ClearFault}
use Rattle.sched_clearing.specs.declared.selections.ClearFault.TheVariants as clear

-- the first reason against passing over what a clear of one date names
abbrev pub mark_fault : Schedule → Clearing → Option MarkFault
mark_fault a c = first_some (
    when (is_unknown_graph a c.graph) fault.UnknownGraph
    ∷ when (is_unknown_task a c) fault.UnknownTask
    ∷ option_map fault.InFlight (least_in_flight a (cleared_by a c))
    ∷ when (not (has_run_at a c.graph c.from)) fault.UnknownRun
    ∷ [])

-- what it names is skipped, or there is a first reason against it, or memory ran out
abbrev pub IsPassedOver : Schedule → Clearing → Schedule → Result (Unit {0}) MarkFault → Type 0
IsPassedOver a c b (Ok done) = (mark_fault a c ≡ None) × (b ≡ set_named (Some verdict.Skip) (cleared_by a c) a)
IsPassedOver a c b (Err f) = (f ≡ fault.Memory) ⊎ (mark_fault a c ≡ Some f)

-- the mark is made, or there is a first reason against it, or memory ran out
abbrev pub IsMarkedAs : Schedule → List ℕ → ℕ → List ℕ → Schedule → Result (Unit {0}) MarkFault → Type 0
IsMarkedAs a id date task b (Ok done) = (mark_fault a (one_of id date task) ≡ None) × (b ≡ mark id date task a)
IsMarkedAs a id date task b (Err f) = (f ≡ fault.Memory) ⊎ (mark_fault a (one_of id date task) ≡ Some f)

-- the fault of a mark for that of a clear
abbrev pub fault_of : ClearFault → MarkFault
fault_of clear.UnknownGraph = fault.UnknownGraph
fault_of clear.UnknownTask = fault.UnknownTask
fault_of clear.Memory = fault.Memory
