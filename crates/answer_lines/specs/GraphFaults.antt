-- The faults of files that are no graph files.
-- restates: this project's own profile
use Rattle.std.specs.Prelude.{ℕ, List, ◌++◌, codes}
use Rattle.std.specs.Fmt.{decimal}
use Rattle.cron_timetable.specs.declared.faults.CronFault.{CronFault}
use Rattle.cron_timetable.specs.declared.faults.CronFault.TheVariants as cron
use Rattle.graph_file.specs.declared.faults.Place.{Place}
use Rattle.graph_file.specs.declared.faults.Place.TheVariants.{Top, Task}
use Rattle.graph_file.specs.declared.faults.GraphFault.{GraphFault}
use Rattle.graph_file.specs.declared.faults.GraphFault.TheVariants as graph

-- the number and the name of a fault of a cron text
abbrev pub cron_fault_text : CronFault → List ℕ
cron_fault_text cron.FieldCount = codes "1 FieldCount"
cron_fault_text cron.BadNumber = codes "2 BadNumber"
cron_fault_text cron.OutOfField = codes "3 OutOfField"
cron_fault_text cron.BadRange = codes "4 BadRange"
cron_fault_text cron.BadStep = codes "5 BadStep"
cron_fault_text cron.NeverFires = codes "6 NeverFires"
cron_fault_text cron.UnknownPreset = codes "7 UnknownPreset"

-- tasks are counted from 0, in the order of the file
abbrev pub place_text : Place → List ℕ
place_text Top = codes "top"
place_text (Task n) = codes "task " ++ decimal n

abbrev pub graph_fault_text : GraphFault → List ℕ
graph_fault_text graph.NotToml = codes "1 NotToml"
graph_fault_text (graph.UnknownKey place) = codes "2 UnknownKey " ++ place_text place
graph_fault_text (graph.WrongType place) = codes "3 WrongType " ++ place_text place
graph_fault_text (graph.MissingKey place) = codes "4 MissingKey " ++ place_text place
graph_fault_text (graph.BadName place) = codes "5 BadName " ++ place_text place
graph_fault_text (graph.BadValue place) = codes "6 BadValue " ++ place_text place
graph_fault_text (graph.Cron fault) = codes "7 Cron " ++ cron_fault_text fault
graph_fault_text graph.NoTask = codes "8 NoTask"
graph_fault_text graph.TooMany = codes "9 TooMany"
graph_fault_text graph.Memory = codes "10 Memory"
