use Rattle.std.proofs.Common.{◌≡◌, ◌||◌, ℕ, false, take, get_or, vec_len}
use Rattle.dag_check.specs.Orders.{is_in}
use Rattle.dag_check.proofs.reaching.mark_all.Given as goal

abbrev pub invariant-loop-place : goal.invariant-loop-place
invariant-loop-place l = record {
  len : vec_len l.marks ≡ vec_len l.initial.marks;
  marks : (y : ℕ) → get_or l.marks.items y false ≡ (get_or l.initial.marks.items y false || is_in (take l.place-index l.places) y);
}
