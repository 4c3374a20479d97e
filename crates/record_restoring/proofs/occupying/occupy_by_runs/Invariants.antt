use Rattle.std.proofs.Common.{◌≡◌, drop}
use Rattle.record_restoring.specs.Pools.{open_among, taken_by}
use Rattle.record_restoring.proofs.occupying.occupy_by_runs.Given as goal

abbrev pub invariant-loop-run : goal.invariant-loop-run
invariant-loop-run l = taken_by (open_among l.graphs (drop l.run-index l.runs)) l.pools.pools ≡ taken_by (open_among l.graphs l.runs) l.initial.pools.pools
