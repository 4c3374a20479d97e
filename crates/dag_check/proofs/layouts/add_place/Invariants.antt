use Rattle.std.proofs.Common.{◌≡◌, ℕ, [], ◌∷◌, ◌++◌, cond, take, vec_len}
use Rattle.dag_check.specs.Orders.{is_in, edges_of}
use Rattle.dag_check.proofs.layouts.add_place.Given as goal

abbrev pub invariant-loop-upstream : goal.invariant-loop-upstream
invariant-loop-upstream l = record {
  long : vec_len l.found ≡ vec_len l.initial.found;
  rows : (j : ℕ) → edges_of l.found.items j ≡ edges_of l.initial.found.items j ++ cond (is_in (take l.upstream-index l.upstreams) j) (l.place ∷ []) [];
}
