use Rattle.std.proofs.Common.{lit<, refl}
use Rattle.toml.specs.View.{table_view}
use Rattle.graph_file.specs.Keys.{top_keys}
use Rattle.graph_file.specs.Schedules.{cron_fault_at, cron_timetable_of}
use Rattle.graph_file.specs.declared.keys.Key.TheVariants as key
use Rattle.graph_file.proofs.ListLemmas.{each_none}
use Rattle.graph_file.proofs.ScheduleLemmas.{schedule_there}
use Rattle.graph_file.proofs.KeyLemmas.{met, word_or}
use Rattle.graph_file.proofs.building.schedule_in.Goals as goal

pub unwrap-schedule-requires : goal.unwrap-schedule-requires
unwrap-schedule-requires c =
    let m = met top_keys (table_view c.args.table.now) 1 c.requires.top (lit< tt) in
    let read = each_none (cron_fault_at (table_view c.args.table.now)) top_keys 1 key.DagId (lit< tt) c.requires.schedule in
    rw (c.read_timetable.ensures, c.text_at.ensures) (schedule_there _ _ m.right m.there read)

pub unwrap-timetable-requires : goal.unwrap-timetable-requires
unwrap-timetable-requires c =
    let m = met top_keys (table_view c.args.table.now) 7 c.requires.top (lit< tt) in
    rw (c.read.ensures, c.text_at-2.ensures) (word_or cron_timetable_of _ _ m.right m.good refl)
