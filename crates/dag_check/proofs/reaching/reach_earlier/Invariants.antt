use Rattle.std.proofs.Common.{◌≡◌, ◌≤◌, ◌+◌, [], false, length, map, get_or, vec_len}
use Rattle.dag_check.proofs.ReachLemmas.{IsMarking}
use Rattle.dag_check.proofs.reaching.reach_earlier.Given as goal

abbrev pub invariant-loop-place : goal.invariant-loop-place
invariant-loop-place l = record {
  long : vec_len l.marks ≡ length l.next;
  within : l.place ≤ l.start + 1;
  marking : IsMarking (λ j. get_or (map (λ v. v.items) l.next) j []) l.start l.place (λ y. get_or l.marks.items y false);
}

abbrev pub decreases-loop-place : goal.decreases-loop-place
decreases-loop-place l = l.place
