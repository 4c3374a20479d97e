use Rattle.std.proofs.Common.{◌≡◌, ◌++◌, ◌+◌, List, length, map, vec_items, All}
use Rattle.std.specs.Vec.Iter.{into_iter_items}
use Rattle.operators.specs.Kits.{IsKit}
use Rattle.operators.specs.declared.kits.Kit.{Kit}
use Rattle.script_runner.specs.Teams.{AreKitsOf, IsWhole}
use Rattle.script_runner.proofs.teams.make_crews.Given as goal

abbrev pub invariant-loop-operators : goal.invariant-loop-operators
invariant-loop-operators g l =
    let rest = into_iter_items l.operators-iterator in
    record {
      whole : All (λ w. IsWhole g.O.Operator.kind_of w.0.items) rest;
      kits : All (λ c. IsKit g.O.Operator.kind_of c.kit) (vec_items l.crews);
      made : (more : List (Kit g.row.O.Denot)) → AreKitsOf g.O.Operator.kind_of (map (λ w. w.0.items) rest) more
          → AreKitsOf g.O.Operator.kind_of (map (λ w. w.0.items) (vec_items l.fn.team)) (map (λ c. c.kit) (vec_items l.crews) ++ more);
      count : length (vec_items l.crews) + length rest ≡ length (vec_items l.fn.team);
    }
