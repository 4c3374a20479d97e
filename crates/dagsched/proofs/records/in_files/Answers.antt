use Rattle.std.proofs.Common.{inl, inr}
use Rattle.dagsched.proofs.DoneLemmas.{not_made}
use Rattle.dagsched.proofs.records.in_files.Goals as goal

pub returns-in-Ok : goal.returns-in-Ok
returns-in-Ok g c =
    inl (record {
      conn = c.in-Ok.conn;
      after = c.on_connection-conn.result.0;
      opened = λ clean. (c.in-Ok.ensures.opened clean, c.in-Ok.ensures.found clean);
      done = c.on_connection-conn.ensures.done;
    })

pub returns-in-Err : goal.returns-in-Err
returns-in-Err g c = inr (not_made c.put_unmade.result c.put_unmade.ensures)
