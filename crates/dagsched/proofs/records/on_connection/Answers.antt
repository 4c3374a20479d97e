use Rattle.std.proofs.Common.{◌≡◌, ◌∙◌, true, false, sym, inl, inr}
use Rattle.sqlite.specs.Held.{state}
use Rattle.dagsched.specs.Records.{has_tables}
use Rattle.dagsched.proofs.DoneLemmas.{unmade_cause}
use Rattle.dagsched.proofs.records.on_connection.Goals as goal

pub returns-then-has_tables-clause-done : goal.returns-then-has_tables-clause-done
returns-then-has_tables-clause-done g c =
    let some : has_tables (state g.S.Store c.args.conn).now.schema ≡ true = sym c.has_tables.ensures ∙ c.if-has_tables.true in
    inl (c.adopt.result, inl (some, c.adopt.ensures), c.on_store.ensures.done)

pub returns-in-Ok-clause-done : goal.returns-in-Ok-clause-done
returns-in-Ok-clause-done g c =
    let none : has_tables (state g.S.Store c.args.conn).now.schema ≡ false = sym c.has_tables.ensures ∙ c.if-has_tables.false in
    let made = c.in-Ok.ensures in
    inl (c.in-Ok.store, inr (none, made.transacts), c.on_store-in-Ok.ensures.done)

pub returns-in-Err-clause-done : goal.returns-in-Err-clause-done
returns-in-Err-clause-done g c =
    let none : has_tables (state g.S.Store c.args.conn).now.schema ≡ false = sym c.has_tables.ensures ∙ c.if-has_tables.false in
    inr (record {
      none = none;
      fault = c.in-Err.fault;
      told = c.from.result;
      same = c.from.ensures;
      cause = unmade_cause _ (state g.S.Store c.args.conn).now.schema none c.in-Err.ensures.fault;
      status_is = c.put_failure-status.ensures;
      undone = c.in-Err.ensures.transacts;
    })
