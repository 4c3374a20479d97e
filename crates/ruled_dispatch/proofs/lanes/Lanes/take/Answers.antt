use Rattle.std.proofs.Common.{◌<◌, arith}
use Rattle.crossbeam_queue.specs.Passes.{view}
use Rattle.ruled_dispatch.proofs.JobSteps.{takes}
use Rattle.ruled_dispatch.proofs.lanes.Lanes.take.Goals as goal

pub pop_as-requires-clause-rule : goal.pop_as-requires-clause-rule
pop_as-requires-clause-rule g c =
    let one = c.args.pass.now.one_part in
    let part : 0 < (view c.args.pass.now.jobs).parts = omega arith in
    (takes _ _ part, λ items views b at. tt)
