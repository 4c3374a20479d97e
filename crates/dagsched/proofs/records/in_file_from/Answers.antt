use Rattle.std.proofs.Common.{inl, inr}
use Rattle.sqlite.specs.Files.{file_state}
use Rattle.dagsched.proofs.DoneLemmas.{on_clean}
use Rattle.dagsched.proofs.records.in_file_from.Goals as goal

pub returns-in-Ok : goal.returns-in-Ok
returns-in-Ok g c =
    let left = c.on_connection-conn.result in
    let did = c.on_connection-conn.ensures.done in
    inl (record {
      after = left.0;
      said = left.1;
      on_file = record {
        found = c.in-Ok.conn;
        opened = λ clean. c.in-Ok.ensures.found (on_clean file_state _ c.args.command.now c.in-Ok.conn left.0 left.1 did clean);
        done = did;
        settled = c.on_connection-conn.ensures.settled;
      };
      closed = c.close.ensures;
    })

pub returns-in-Err : goal.returns-in-Err
returns-in-Err g c = inr c.put_unopened.ensures
