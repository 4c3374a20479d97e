use Rattle.std.proofs.Common.{None}
use Rattle.sqlite.specs.Held.{state}
use Rattle.dagsched.proofs.DoneLemmas.{not_begun}
use Rattle.dagsched.proofs.records.run_single.Goals as goal

pub returns-in-Err : goal.returns-in-Err
returns-in-Err g c = (None, None, not_begun (state g.S.Store) c.args.store c.put_error.result c.put_error.ensures c.args.command.now None)
