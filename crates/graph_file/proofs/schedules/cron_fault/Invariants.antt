use Rattle.std.proofs.Common.{◌≡◌, drop, map}
use Rattle.toml.specs.View.{table_view}
use Rattle.graph_file.specs.Lists.{first_some}
use Rattle.graph_file.specs.Schedules.{cron_fault_at}
use Rattle.graph_file.proofs.schedules.cron_fault.Given as goal

abbrev pub invariant-loop-key : goal.invariant-loop-key
invariant-loop-key l =
    first_some (map (cron_fault_at (table_view l.table)) (drop l.key-index l.keys)) ≡ first_some (map (cron_fault_at (table_view l.table)) l.keys)
