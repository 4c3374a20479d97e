-- Why the system gives no text of a file and no moment, by the kind of its error.
-- restates: `std::io::ErrorKind`
use Rattle.std.specs.declared.io.ErrorKind.{ErrorKind}
use Rattle.std.specs.declared.io.ErrorKind.TheVariants as kind
use Rattle.conduct.specs.sessions.declared.clocks.ClockFault.{ClockFault}
use Rattle.conduct.specs.sessions.declared.clocks.ClockFault.TheVariants as clock
use Rattle.script_commands.specs.declared.commands.SourceFault.{SourceFault}
use Rattle.script_commands.specs.declared.commands.SourceFault.TheVariants as source

-- of a file that is not read
abbrev pub file_fault : ErrorKind → SourceFault
file_fault kind.OutOfMemory = source.Memory
file_fault _ = source.Unreadable

-- of a clock that gives no reading: a time before 1970 is invalid data to the standard library
abbrev pub clock_fault : ErrorKind → ClockFault
clock_fault kind.OutOfMemory = clock.Memory
clock_fault kind.InvalidData = clock.OutOfRange
clock_fault _ = clock.NoClock
