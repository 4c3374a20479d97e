use Rattle.std.proofs.Common.{rules, refl, Ok, Err}
use Rattle.sqlite.specs.Held.{state}
use Rattle.record_tables.specs.Puts.{put_in}
use Rattle.record_tables.specs.Given.{IsGiven, Puts}
use Rattle.record_tables.proofs.GivenLemmas.{given_then, tells}
use Rattle.record_tables.proofs.ValueLemmas.{told_on}
use Rattle.record_tables.proofs.PutLemmas.{row_put, puts_again}
use Rattle.record_tables.proofs.StepLemmas.{goes, goes_more, stops, stops_then, on_err}
use Rattle.record_tables.proofs.stored.put_all.Goals as goal

pub returns-in_err-put-clause-err : goal.returns-in_err-put-clause-err
returns-in_err-put-clause-err g c =
    let mid = state g.S.Store c.loop-row.tx.conn.now in
    let new = state g.S.Store c.put.new.tx.conn.now in
    on_err c.from_residual.result _
    (stops_then _ (state g.S.Store c.args.tx.now.conn.now) mid new c.loop-row.invariant.goes
    (stops _ _ mid new (Err c.in_err-put.field-0.0) c.in_err-put.ensures.runs.runs c.in_err-put.ensures.runs.survives))

pub loop-row-preserved : goal.loop-row-preserved
loop-row-preserved g c =
    let t = g.X.Stored in
    let before = g.X.Keyed.before in
    let mid = state g.S.Store c.loop-row.tx.conn.now in
    let new = state g.S.Store c.put.new.tx.conn.now in
    let x = c.row-item.result in
    record {
      same_reference = search rules;
      goes =
          goes_more (put_in t.among t.with_rows before) (puts_again t.which t.cells before t.among t.with_rows c.kept.ensures) c.args.rows.now c.loop-row.row-index x (search rules) (search rules)
          (state g.S.Store c.args.tx.now.conn.now) mid new c.loop-row.invariant.goes
          (goes _ _ mid new _ (Ok c.in_ok-put.field-0) c.in_ok-put.ensures.runs.runs c.in_ok-put.ensures.runs.survives
          (row_put t.which t.cells before t.among t.with_rows c.kept.ensures mid new x (Ok c.in_ok-put.field-0)));
    }

pub returns-in_err-put-clause-given : goal.returns-in_err-put-clause-given
returns-in_err-put-clause-given g c clean inside =
    let old = state g.S.Store c.args.tx.now.conn.now in
    let mid = state g.S.Store c.loop-row.tx.conn.now in
    let new = state g.S.Store c.put.new.tx.conn.now in
    let e = c.in_err-put.field-0.0 in
    let runs = c.in_err-put.ensures.runs in
    told_on c.from_residual.result e (IsGiven old new) c.from_residual.ensures.1
    (given_then _ old mid new c.loop-row.invariant.goes (stops _ _ mid new (Err e) runs.runs runs.survives) e (tells _ (Puts g.X.Stored.which refl) _ mid new (Err e) runs.runs) clean inside)
