use Rattle.std.proofs.Common.{◌≡◌, ◌+◌, [], true, All, vec_items, vec_len}
use Rattle.crossbeam_queue.specs.Passes.{view, IsPassOf}
use Rattle.ruled_dispatch.specs.JobsRule.{all_parts}
use Rattle.ruled_dispatch.specs.Lanes.{taken_of, told_of, AreNumbered}
use Rattle.ruled_dispatch.proofs.lanes.Lanes.open.Given as goal

abbrev pub invariant-loop-made : goal.invariant-loop-made
invariant-loop-made l = record {
  sender : IsPassOf l.jobs l.sender;
  hearer : IsPassOf l.reports l.hearer;
  parts : (view l.sender).parts + l.made ≡ all_parts;
  sends : (view l.sender).senders ≡ 1;
  sent : (view l.sender).sent ≡ [];
  taken : (view l.sender).taken ≡ [];
  hears : (view l.hearer).hears ≡ true;
  heard : (view l.hearer).heard ≡ [];
  numbers : (view l.hearer).made ≡ l.made;
  returned : (view l.hearer).returned ≡ [];
  count : vec_len l.passes ≡ l.made;
  of_jobs : All (λ w. IsPassOf l.jobs w.jobs) (vec_items l.passes);
  of_reports : All (λ w. IsPassOf l.reports w.reports) (vec_items l.passes);
  numbered : AreNumbered (vec_items l.passes);
  took_none : All (λ w. taken_of w ≡ []) (vec_items l.passes);
  told_none : All (λ w. told_of w ≡ []) (vec_items l.passes);
}
