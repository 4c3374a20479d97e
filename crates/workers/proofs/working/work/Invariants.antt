use Rattle.std.proofs.Common.{◌≡◌, ◌++◌}
use Rattle.ruled_dispatch.specs.Lanes.{taken_of, told_of, IsWorkerOf}
use Rattle.operators.specs.Kits.{IsKit}
use Rattle.workers.specs.Accounts.{IsAccount}
use Rattle.workers.specs.Logs.{jobs_of, reports_of}
use Rattle.workers.specs.Shows.{shows}
use Rattle.workers.proofs.working.work.Given as goal

abbrev pub invariant-loop : goal.invariant-loop
invariant-loop g l =
    let op = g.O.Operator in
    record {
      pass : IsWorkerOf l.lanes l.worker.pass;
      number : l.worker.pass.number ≡ l.fn.pass.number;
      taken : taken_of l.worker.pass ≡ taken_of l.fn.pass ++ jobs_of l.log.items;
      told : told_of l.worker.pass ≡ told_of l.fn.pass ++ reports_of l.log.items;
      share : l.worker.share ≡ l.fn.share;
      kit : IsKit op.kind_of l.worker.kit;
      account : IsAccount (shows op.kind_of op.runs_of op.refused_of op.taken) l.fn.crew.kit l.worker.kit l.log.items;
      keep : l.log.keep ≡ l.fn.keep;
    }
