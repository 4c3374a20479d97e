use Rattle.std.proofs.Common.{◌≡◌, ◌+◌, ◌<◌, ℕ, vec_items, vec_len}
use Rattle.std.specs.Prelude.{slice_index_or}
use Rattle.worked_workers.proofs.jobs.numbered_jobs.Given as goal

abbrev pub invariant-loop-before : goal.invariant-loop-before
invariant-loop-before l = record {
  count : vec_len l.jobs ≡ l.before;
  serials : (k : ℕ) (d : _) → k < l.before → (slice_index_or (vec_items l.jobs) k d).serial ≡ k + 1;
}
