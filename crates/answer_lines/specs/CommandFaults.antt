-- The lines of lines that are no command, and of texts that could not be had.
-- restates: this project's own profile
use Rattle.std.specs.Prelude.{ℕ, List, ◌++◌, codes}
use Rattle.moment_core.specs.declared.reading.MomentFault.{MomentFault}
use Rattle.moment_core.specs.declared.reading.MomentFault.TheVariants.{Shape, NoSuchDate, OutOfRange}
use Rattle.command_words.specs.declared.commands.UsageFault.{UsageFault}
use Rattle.command_words.specs.declared.commands.UsageFault.TheVariants.{Words, BadName, BadMoment, NotHere, BadLine, BadState, Memory}
use Rattle.script_commands.specs.declared.commands.SourceFault.{SourceFault}
use Rattle.script_commands.specs.declared.commands.SourceFault.TheVariants as source
use Rattle.script_commands.specs.declared.commands.CommandFault.{CommandFault}
use Rattle.script_commands.specs.declared.commands.CommandFault.TheVariants.{Usage, Source}

-- the number and the name of a moment's fault
abbrev pub moment_fault_text : MomentFault → List ℕ
moment_fault_text Shape = codes "1 Shape"
moment_fault_text NoSuchDate = codes "2 NoSuchDate"
moment_fault_text OutOfRange = codes "3 OutOfRange"

-- the line of words that do not fit; want of memory has the line that it has everywhere
abbrev pub usage_text : UsageFault → List ℕ
usage_text Words = codes "usage 1 Words\n"
usage_text BadName = codes "usage 2 BadName\n"
usage_text (BadMoment fault) = codes "usage 3 BadMoment " ++ moment_fault_text fault ++ codes "\n"
usage_text NotHere = codes "usage 4 NotHere\n"
usage_text BadLine = codes "usage 5 BadLine\n"
usage_text BadState = codes "usage 6 BadState\n"
usage_text Memory = codes "memory\n"

-- the line of a text that could not be had
abbrev pub source_text : SourceFault → List ℕ
source_text source.Unreadable = codes "source 1 Unreadable\n"
source_text source.NotText = codes "source 2 NotText\n"
source_text source.TooLong = codes "source 3 TooLong\n"
source_text source.Memory = codes "memory\n"
source_text source.NoEnd = codes "source 5 NoEnd\n"

-- the line of what is no command
abbrev pub command_fault_text : CommandFault → List ℕ
command_fault_text (Usage fault) = usage_text fault
command_fault_text (Source fault) = source_text fault
