use Rattle.std.proofs.Common.{◌≡◌, take, map, not, false}
use Rattle.std.specs.List.{list_any}
use Rattle.dag_check.specs.Names.{has, position_of}
use Rattle.dag_check.proofs.positions.positions.Given as goal

abbrev pub invariant-loop-name : goal.invariant-loop-name
invariant-loop-name l = record {
  known : list_any (λ q. not (has l.ids.keys q)) (take l.name-index l.names) ≡ false;
  row : l.row.items ≡ map (position_of l.ids.keys) (take l.name-index l.names);
}
