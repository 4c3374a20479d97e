use Rattle.std.proofs.Common.{sym}
use Rattle.ruled_dispatch.proofs.ReportSteps.{tells}
use Rattle.ruled_dispatch.proofs.lanes.Lanes.tell.Goals as goal

pub push_as-told-requires-clause-rule : goal.push_as-told-requires-clause-rule
push_as-told-requires-clause-rule g c =
    let pass = c.args.pass.now in
    (tells _ _ _ _ pass.tells pass.is_no_hearer (sym pass.numbered), λ items views b at. tt)
