use denote.Param.Send.{sendable}
use Rattle.std.proofs.Crossing.{crosses}
use Rattle.ruled_dispatch.proofs.passes.WorkerPass.TheSendSync.{the_send as pass_send}
use Rattle.slot_desk.proofs.shares.Share.TheSendSync.{the_send as share_send}
use Rattle.workers.proofs.Sends.{end_send}
use Rattle.workers.proofs.threads.start.Goals as goal

pub spawn_with-requires-send-T : goal.spawn_with-requires-send-T
spawn_with-requires-send-T g c κs within = search (sendable, crosses, end_send, pass_send, share_send) depth 40
