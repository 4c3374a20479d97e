-- What a line of a script asks for.
-- restates: this project's own profile
use Rattle.std.specs.Prelude.{◌≡◌, ⊤, Bool, true, false, List, Option, Some, None, Result, Ok, Err}
use Rattle.clap.specs.Words.{Text}
use Rattle.sched_events.specs.declared.events.Event.TheVariants.{Tick, Report, Restart}
use Rattle.command_words.specs.Lines.{line_of}
use Rattle.command_words.specs.declared.commands.Command.{Command}
use Rattle.command_words.specs.declared.commands.Command.TheVariants as says
use Rattle.command_words.specs.declared.commands.CommandLine.{CommandLine}
use Rattle.command_words.specs.declared.commands.GraphSource.{GraphSource}
use Rattle.command_words.specs.declared.commands.GraphSource.TheVariants.{File, Inline}
use Rattle.command_words.specs.declared.commands.TickTime.{TickTime}
use Rattle.command_words.specs.declared.commands.TickTime.TheVariants.{At, Now}
use Rattle.command_words.specs.declared.takings.Taking.{Taking}
use Rattle.command_words.specs.declared.commands.UsageFault.{UsageFault}
use Rattle.command_words.specs.declared.commands.UsageFault.TheVariants.{NotHere}
use Rattle.script_commands.specs.declared.meanings.LineMeaning.{LineMeaning}
use Rattle.script_commands.specs.declared.meanings.LineMeaning.TheVariants.{Nothing, Text as TextFollows, This, Fault}
use Rattle.script_commands.specs.declared.commands.ScriptCommand.{ScriptCommand}
use Rattle.script_commands.specs.declared.commands.ScriptCommand.TheVariants.{Step, TakeFile, TickNow, Drain, List as ListRows, Explain}

-- `load inline` and `replace inline`, whose text follows, and `load PATH` and `replace PATH`
abbrev pub of_source : Taking → GraphSource → LineMeaning
of_source taking Inline = TextFollows taking
of_source taking (File path) = This (TakeFile taking path)

-- `tick MOMENT`, `tick now`
abbrev pub of_time : TickTime → LineMeaning
of_time (At moment) = This (Step (Tick moment))
of_time Now = This TickNow

-- a command in a script, where `run` has no place
abbrev pub of_command : Command → LineMeaning
of_command (says.Run options) = Fault NotHere
of_command (says.List listing) = This (ListRows listing)
of_command (says.Explain question) = This (Explain question)
of_command (says.Step event) = This (Step event)
of_command (says.Take taking source) = of_source taking source
of_command (says.Tick time) = of_time time
of_command says.Drain = This Drain

-- nor has `--record`
abbrev pub of_parts : Option Text → Command → LineMeaning
of_parts (Some path) command = Fault NotHere
of_parts None command = of_command command

abbrev pub of_line : CommandLine → LineMeaning
of_line line = of_parts line.record_path line.command

abbrev pub of_reading : Result CommandLine UsageFault → LineMeaning
of_reading (Ok line) = of_line line
of_reading (Err fault) = Fault fault

-- what words ask for
unfoldable pub meaning_by : List Text → LineMeaning
meaning_by words = of_reading (line_of words)

-- what is wanted is given, or memory ran out
abbrev pub IsReadAs : {E : Type 0} → LineMeaning → Result LineMeaning E → Type 0
IsReadAs wanted (Ok asked) = asked ≡ wanted
IsReadAs wanted (Err lack) = ⊤

-- a command whose event, if it has one, is neither a report of a worker nor a restart
abbrev pub is_of_script : ScriptCommand → Bool
is_of_script (Step (Report serial stage)) = false
is_of_script (Step (Restart lanes)) = false
is_of_script _ = true

-- the same of what a line asks for
abbrev pub asks_of_script : LineMeaning → Bool
asks_of_script (This command) = is_of_script command
asks_of_script _ = true
