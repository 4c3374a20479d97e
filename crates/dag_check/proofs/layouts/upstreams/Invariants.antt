use Rattle.std.proofs.Common.{◌≡◌, take, map, Vec, Global, ℕ}
use Rattle.dag_check.specs.Orders.{edges_of, place_in}
use Rattle.dag_check.proofs.layouts.upstreams.Given as goal

abbrev pub invariant-loop-position : goal.invariant-loop-position
invariant-loop-position l =
    map (λ (r : Vec ℕ Global). r.items) l.placed.items ≡ map (λ p. map (place_in l.order) (edges_of l.rows p)) (take l.position-index l.order)
