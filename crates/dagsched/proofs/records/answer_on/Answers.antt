use Rattle.std.proofs.Common.{false, refl}
use Rattle.sqlite.specs.Held.{state}
use Rattle.dagsched.proofs.SingleLemmas.{done_out, written_out}
use Rattle.dagsched.proofs.records.answer_on.Goals as goal

pub returns-in-Ok : goal.returns-in-Ok
returns-in-Ok g c =
    let did = c.run_command-store.result in (
      did.told,
      done_out (state g.S.Store) (g.W.Write.contents c.args.output.now) (g.W.Write.contents c.run_command-store.new.output) (g.W.Write.contents c.flush.new.self) did.told did.told did.status did.status
          (written_out _ _ _ c.flush.ensures.bytes did.told did.status) c.args.command.now c.args.store did.store c.run_command-store.ensures,
    )

pub returns-in-Err : goal.returns-in-Err
returns-in-Err g c =
    let did = c.run_command-store.result in (
      false,
      done_out (state g.S.Store) (g.W.Write.contents c.args.output.now) (g.W.Write.contents c.run_command-store.new.output) (g.W.Write.contents c.flush.new.self) did.told false did.status 4
          (λ text wanted is. refl) c.args.command.now c.args.store did.store c.run_command-store.ensures,
    )
