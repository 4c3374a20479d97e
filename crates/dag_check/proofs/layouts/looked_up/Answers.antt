use Rattle.std.proofs.Common.{◌<◌, length, get_or, rules}
use Rattle.dag_check.proofs.OrderLemmas.{in-at}
use Rattle.dag_check.proofs.layouts.looked_up.Goals as goal

pub bounds-table-position : goal.bounds-table-position
bounds-table-position c = c.requires _ (in-at c.args.row.now c.loop-position.position-index c.loop-position-test.true)

pub offset_bounds-table-position : goal.offset_bounds-table-position
offset_bounds-table-position c =
    let b : get_or c.args.row.now c.loop-position.position-index 0 < length c.args.table.now = c.requires _ (in-at c.args.row.now c.loop-position.position-index c.loop-position-test.true) in
    search rules
