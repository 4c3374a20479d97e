use Rattle.std.proofs.Common.{◌≡◌, map, take}
use Rattle.trigger_rules.specs.Counts.{counts_of, total}
use Rattle.sched_settling.specs.States.{state_in}
use Rattle.sched_settling.proofs.deciding.upstream_counts.Given as goal

abbrev pub invariant-loop-upstream : goal.invariant-loop-upstream
invariant-loop-upstream l = record {
  counted : l.counts ≡ counts_of (map (state_in l.dag l.run) (take l.upstream-index l.upstream-items));
  total : total l.counts ≡ l.upstream-index;
}
