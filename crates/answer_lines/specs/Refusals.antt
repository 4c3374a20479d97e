-- The lines of refusals.
-- restates: this project's own profile
use Rattle.std.specs.Prelude.{ℕ, List, ◌++◌, codes}
use Rattle.std.specs.Fmt.{decimal}
use Rattle.moment_core.specs.Printing.{text_of}
use Rattle.pool_book.specs.declared.pools.PoolFault.{PoolFault as FaultOfPool}
use Rattle.pool_book.specs.declared.pools.PoolFault.TheVariants as pool
use Rattle.sched_events.specs.declared.refusals.Refusal.{Refusal}
use Rattle.sched_events.specs.declared.refusals.Refusal.TheVariants.{GraphFault, DagFault, UnknownPool, TooManyGraphs, GraphDiffers, UnknownGraph, UnknownTask, ClockBack, BadSpan, RunExists, NoInterval, InFlight, NotInFlight, OutOfTurn, PoolFault, LanesTooMany, RecordFull, OtherTasks, OtherSlots, Redoes, UnknownRun, Memory}
use Rattle.answer_lines.specs.GraphFaults.{graph_fault_text}
use Rattle.answer_lines.specs.DagFaults.{dag_fault_text}

-- the line of a pool that could not be made; want of memory is `memory` here too
abbrev pub pool_fault_text : FaultOfPool → List ℕ
pool_fault_text pool.TooManyPools = codes "refused 15 PoolFault 1 TooManyPools\n"
pool_fault_text pool.Memory = codes "memory\n"

-- `refused`, the refusal's number and name, and what it carries; want of memory is `memory`
abbrev pub refusal_text : Refusal → List ℕ
refusal_text (GraphFault fault) = codes "refused 1 GraphFault " ++ graph_fault_text fault ++ codes "\n"
refusal_text (DagFault fault) = codes "refused 2 DagFault " ++ dag_fault_text fault ++ codes "\n"
refusal_text (UnknownPool pool) = codes "refused 3 UnknownPool " ++ pool ++ codes "\n"
refusal_text TooManyGraphs = codes "refused 4 TooManyGraphs\n"
refusal_text GraphDiffers = codes "refused 5 GraphDiffers\n"
refusal_text UnknownGraph = codes "refused 6 UnknownGraph\n"
refusal_text UnknownTask = codes "refused 7 UnknownTask\n"
refusal_text (ClockBack moment) = codes "refused 8 ClockBack " ++ text_of moment ++ codes "\n"
refusal_text BadSpan = codes "refused 9 BadSpan\n"
refusal_text RunExists = codes "refused 10 RunExists\n"
refusal_text NoInterval = codes "refused 11 NoInterval\n"
refusal_text (InFlight serial) = codes "refused 12 InFlight " ++ decimal serial ++ codes "\n"
refusal_text (NotInFlight serial) = codes "refused 13 NotInFlight " ++ decimal serial ++ codes "\n"
refusal_text (OutOfTurn serial) = codes "refused 14 OutOfTurn " ++ decimal serial ++ codes "\n"
refusal_text (PoolFault fault) = pool_fault_text fault
refusal_text LanesTooMany = codes "refused 16 LanesTooMany\n"
refusal_text RecordFull = codes "refused 17 RecordFull\n"
refusal_text (OtherTasks task) = codes "refused 18 OtherTasks " ++ task ++ codes "\n"
refusal_text (OtherSlots task) = codes "refused 19 OtherSlots " ++ task ++ codes "\n"
refusal_text (Redoes moment) = codes "refused 20 Redoes " ++ text_of moment ++ codes "\n"
refusal_text UnknownRun = codes "refused 21 UnknownRun\n"
refusal_text Memory = codes "memory\n"
