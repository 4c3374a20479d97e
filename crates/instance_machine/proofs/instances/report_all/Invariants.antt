use Rattle.std.proofs.Common.{◌≡◌}
use Rattle.graph_file.proofs.WriteLemmas.{written}
use Rattle.instance_machine.specs.Reports.{reported_try}
use Rattle.instance_machine.proofs.instances.report_all.Given as goal

abbrev pub invariant-loop-at : goal.invariant-loop-at
invariant-loop-at l = l.tries.items ≡ written (reported_try l.serial l.stage l.now) l.initial.tries.items l.at
