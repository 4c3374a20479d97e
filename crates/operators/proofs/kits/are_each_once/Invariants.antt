use Rattle.std.proofs.Common.{◌≡◌, ◌≤◌, map, take}
use Rattle.graph_file.specs.declared.operators.Operator.TheVariants as kinds
use Rattle.operators.specs.Kits.{times}
use Rattle.operators.proofs.kits.are_each_once.Given as goal

abbrev pub invariant-loop-operator : goal.invariant-loop-operator
invariant-loop-operator g l = record {
  noops : l.noops ≡ times kinds.Noop (map g.O.Operator.kind_of (take l.operator-index l.operators));
  commands : l.commands ≡ times kinds.Command (map g.O.Operator.kind_of (take l.operator-index l.operators));
  exits : l.exits ≡ times kinds.Exit (map g.O.Operator.kind_of (take l.operator-index l.operators));
  few : (l.noops ≤ l.operator-index) × (l.commands ≤ l.operator-index) × (l.exits ≤ l.operator-index);
}
