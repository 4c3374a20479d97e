use Rattle.ruled_dispatch.proofs.ReportSteps.{hears}
use Rattle.ruled_dispatch.proofs.lanes.Lanes.hear.Goals as goal

pub pop_as-requires-clause-rule : goal.pop_as-requires-clause-rule
pop_as-requires-clause-rule g c = (hears _ _ c.args.pass.now.hears, λ items views b at. tt)
