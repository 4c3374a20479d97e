use Rattle.std.proofs.Common.{inr}
use Rattle.sqlite.specs.Held.{state}
use Rattle.dagsched.proofs.DoneLemmas.{not_opened}
use Rattle.dagsched.proofs.scripts.run_own.Goals as goal

pub returns-in-Err : goal.returns-in-Err
returns-in-Err g c = inr (not_opened (state g.S.Store) c.args.store c.put_error.result c.put_error.ensures)
