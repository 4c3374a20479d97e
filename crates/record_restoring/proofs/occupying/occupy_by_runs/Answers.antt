use Rattle.std.proofs.Common.{◌∙◌}
use Rattle.record_restoring.specs.Pools.{open_in}
use Rattle.record_rules.proofs.RiseLemmas.{read_at}
use Rattle.record_restoring.proofs.TakingLemmas.{taken_turn}
use Rattle.record_restoring.proofs.occupying.occupy_by_runs.Goals as goal

pub loop-run-preserved : goal.loop-run-preserved
loop-run-preserved c =
    taken_turn (open_in c.args.graphs.now) c.args.runs.now c.loop-run.run-index c.run-item.result c.loop-run.pools.pools c.occupy_by_run.new.pools.pools
    (read_at c.args.runs.now c.loop-run.run-index c.run-item.result c.loop-run-test.true c.run-item.is) c.occupy_by_run.ensures ∙ c.loop-run.invariant
