use Rattle.std.proofs.Common.{◌≡◌, find}
use Rattle.sched_state.specs.Lists.{same}
use Rattle.sched_core.specs.sched_events.Rows.{PoolLine}
use Rattle.sched_core.specs.Views.{pool_rows}
use Rattle.explain.proofs.handout_reasons.pool_of.Given as goal

abbrev pub invariant-loop-row : goal.invariant-loop-row
invariant-loop-row l = find (λ (p : PoolLine). same p.name l.name) l.row-iterator ≡ find (λ (p : PoolLine). same p.name l.name) (pool_rows l.schedule.content)
