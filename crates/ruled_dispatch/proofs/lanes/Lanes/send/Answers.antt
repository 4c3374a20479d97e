use Rattle.ruled_dispatch.proofs.JobSteps.{sends, holds_sent}
use Rattle.ruled_dispatch.proofs.lanes.Lanes.send.Goals as goal

pub push_as-sent-requires-clause-rule : goal.push_as-sent-requires-clause-rule
push_as-sent-requires-clause-rule g c =
    let sender = c.args.pass.now.sends in
    (sends _ _ _ _ sender, holds_sent _ _ sender)
