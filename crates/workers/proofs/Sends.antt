-- What comes back from a worker may go to another thread.
use denote.RattleType.{RattleType}
use denote.Param.Send.{IsSend, sendable}
use Rattle.std.proofs.Crossing.{crosses}
use Rattle.std.specs.declared.sync.ledger.Ledger as ledger
use Rattle.operators.specs.declared.operators.Operator as operator
use Rattle.kept.specs.contracts.lists.Kept as Kept
use Rattle.workers.specs.contracts.logs.Logged as Logged
use Rattle.workers.specs.contracts.crews.EndAt as EndAt
use Rattle.workers.proofs.logs.Logged.TheSendSync.{the_send as logged_send}

log_send : IsSend (Kept.the_row Logged.the_row)
log_send = search (sendable, crosses, logged_send) depth 20

pub end_send : (L G O : RattleType) (l : ledger.Ghosts L.Denot) (o : operator.Ghosts O.Denot) → IsSend L → IsSend G → IsSend O → IsSend (EndAt.the_row L G O l o)
end_send L G O l o desk gate operators = search (sendable, crosses, log_send) depth 20
