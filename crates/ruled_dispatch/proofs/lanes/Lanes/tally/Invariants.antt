use Rattle.std.proofs.Common.{◌≡◌, ◌+◌, ◌++◌, ◌<◌, ℕ, true, map, All, vec_items, length}
use Rattle.std.specs.Prelude.{sum_by}
use Rattle.std.specs.Vec.Iter.{into_iter_items}
use Rattle.crossbeam_queue.specs.Passes.{view, IsPassOf}
use Rattle.ruled_dispatch.specs.declared.items.JobOrStop.{JobOrStop}
use Rattle.ruled_dispatch.specs.JobsRule.{all_parts}
use Rattle.ruled_dispatch.specs.ReportsRule.{told_under}
use Rattle.ruled_dispatch.specs.Lanes.{taken_of, sent_of, heard_of}
use Rattle.ruled_dispatch.proofs.lanes.Lanes.tally.Given as goal

abbrev pub invariant-loop-worker : goal.invariant-loop-worker
invariant-loop-worker g l =
    let rest = into_iter_items l.worker-iterator in
    record {
      sender : IsPassOf l.jobs l.sender;
      hearer : IsPassOf l.reports l.hearer;
      of_jobs : All (λ w. IsPassOf l.jobs w.jobs) rest;
      of_reports : All (λ w. IsPassOf l.reports w.reports) rest;
      some_part : 0 < (view l.sender).parts;
      parts : (view l.sender).parts + length rest ≡ all_parts;
      sends : (view l.sender).senders ≡ 1;
      sent : (weight : JobOrStop → ℕ) → sum_by weight (view l.sender).sent ≡ sum_by weight (sent_of l.fn.director);
      taken : (weight : JobOrStop → ℕ) → sum_by weight (view l.sender).taken + sum_by (λ w. sum_by weight (taken_of w)) rest ≡ sum_by (λ w. sum_by weight (taken_of w)) (vec_items l.fn.workers);
      hears : (view l.hearer).hears ≡ true;
      heard : (view l.hearer).heard ≡ heard_of l.fn.director;
      made : (view l.hearer).made ≡ (view l.fn.director.reports).made;
      returned : (view l.hearer).returned ++ map (λ w. told_under (view w.reports)) rest ≡ map (λ w. told_under (view w.reports)) (vec_items l.fn.workers);
    }
