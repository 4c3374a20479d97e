use Rattle.std.proofs.Common.{◌≡◌, true, take}
use Rattle.sched_laws.specs.sched_model.Lists.{rises}
use Rattle.record_rules.proofs.orders.rise.Given as goal

abbrev pub invariant-loop-position : goal.invariant-loop-position
invariant-loop-position g l = rises g.X.Keyed.before (take l.position l.rows) ≡ true
