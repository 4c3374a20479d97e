-- The lines of a clock that gives no moment, and of a run that ended with a fault.
-- restates: this project's own profile
use Rattle.std.specs.Prelude.{ℕ, List, codes}
use Rattle.sessions.specs.declared.clocks.ClockFault.{ClockFault}
use Rattle.sessions.specs.declared.clocks.ClockFault.TheVariants as clock
use Rattle.sessions.specs.declared.faults.ConductFault.{ConductFault}
use Rattle.sessions.specs.declared.faults.ConductFault.TheVariants.{NoWorker, SpawnRefused, StoreThrice, ReadFault, Memory, Unequal}

-- `clock`, the fault's number and name; want of memory is `memory`
abbrev pub clock_text : ClockFault → List ℕ
clock_text clock.NoClock = codes "clock 1 NoClock\n"
clock_text clock.OutOfRange = codes "clock 2 OutOfRange\n"
clock_text clock.Memory = codes "memory\n"

-- the line of a run that ended with a fault: `conduct`, its number and name; want of memory is `memory`
abbrev pub end_text : ConductFault → List ℕ
end_text NoWorker = codes "conduct 1 NoWorker\n"
end_text SpawnRefused = codes "conduct 2 SpawnRefused\n"
end_text (StoreThrice error) = codes "conduct 3 StoreThrice\n"
end_text ReadFault = codes "conduct 4 ReadFault\n"
end_text Memory = codes "memory\n"
end_text Unequal = codes "conduct 6 Unequal\n"
