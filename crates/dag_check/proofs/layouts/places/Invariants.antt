use Rattle.std.proofs.Common.{◌≡◌, ℕ, take, true, get_or, length, vec_len}
use Rattle.dag_check.specs.Orders.{is_in, place_in}
use Rattle.dag_check.proofs.layouts.places.Given as goal

abbrev pub invariant-loop-place : goal.invariant-loop-place
invariant-loop-place l = record {
  long : vec_len l.places ≡ length l.order;
  places : (y : ℕ) → is_in (take l.place l.order) y ≡ true → get_or l.places.items y 0 ≡ place_in l.order y;
}
