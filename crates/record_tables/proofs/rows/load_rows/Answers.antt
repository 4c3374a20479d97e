use Rattle.std.proofs.Common.{rules, ◌≡◌, ◌∙◌, ap}
use Rattle.sqlite.specs.Held.{state}
use Rattle.record_rows.specs.Rows.{Rows}
use Rattle.record_rules.specs.Cells.{AreTexts}
use Rattle.record_tables.specs.Holds.{Stores}
use Rattle.record_rules.specs.Changes.{no_rows}
use Rattle.record_tables.specs.Puts.{take_first, take_of}
use Rattle.record_tables.specs.declared.faults.LoadFault.TheVariants.{NotOurs}
use Rattle.record_tables.specs.Given.{IsGivenLoadFault}
use Rattle.record_tables.proofs.GivenLemmas.{load_then}
use Rattle.record_tables.proofs.RowsLemmas.{stays_then, before, still, clean_before}
use Rattle.record_tables.proofs.StepLemmas.{stops_then, next}
use Rattle.record_tables.proofs.ValueLemmas.{told_on, on_err}
use Rattle.record_tables.proofs.rows.load_rows.Goals as goal

pub returns-in_err-load_table-clause-fault : goal.returns-in_err-load_table-clause-fault
returns-in_err-load_table-clause-fault g c clean inside =
    let old = state g.S.Store c.args.tx.now.conn.now in
    let mid = state g.S.Store c.loop-at.tx.conn.now in
    let new = state g.S.Store c.load_table.new.tx.conn.now in
    let earlier = clean_before mid new c.in_err-load_table.ensures.err clean in
    told_on c.from_residual.result c.in_err-load_table.field-0.0 (λ e. e ≡ NotOurs → (rows : Rows) → Stores old.now rows → ¬ AreTexts rows) c.from_residual.ensures.1
    (λ is rows stored texts. c.in_err-load_table.ensures.loads.fault clean is rows (still old mid c.loop-at.invariant.goes earlier inside rows stored) (texts c.table_at.result))

pub returns-in_err-load_table-clause-err : goal.returns-in_err-load_table-clause-err
returns-in_err-load_table-clause-err g c =
    on_err c.from_residual.result _
    (stops_then _ (state g.S.Store c.args.tx.now.conn.now) (state g.S.Store c.loop-at.tx.conn.now) (state g.S.Store c.load_table.new.tx.conn.now) c.loop-at.invariant.goes c.in_err-load_table.ensures.err)

pub loop-at-preserved : goal.loop-at-preserved
loop-at-preserved g c =
    let old = state g.S.Store c.args.tx.now.conn.now in
    let mid = state g.S.Store c.loop-at.tx.conn.now in
    let new = state g.S.Store c.load_table.new.tx.conn.now in
    let went = c.in_ok-load_table.ensures.ok in
    record {
      same_reference = search rules;
      goes = stays_then old mid new c.loop-at.invariant.goes went;
      loaded = λ clean inside stored has.
          let earlier = before mid new went clean in
          c.in_ok-load_table.ensures.loads.list clean stored (still old mid c.loop-at.invariant.goes earlier inside stored has)
          ∙ ap (take_of c.table_at.result stored) (c.loop-at.invariant.loaded earlier inside stored has)
          ∙ ap (λ t. take_of t stored (take_first c.loop-at.at stored no_rows)) c.table_at.ensures
          ∙ ap (λ n. take_first n stored no_rows) (next c.loop-at.at);
      texts = c.in_ok-load_table.ensures.loads.texts c.loop-at.invariant.texts;
    }

pub returns-clause-list : goal.returns-clause-list
returns-clause-list g c clean inside rows stored =
    let all : c.loop-at.at ≡ 7 = search rules in
    c.loop-at.invariant.loaded clean inside rows stored ∙ ap (λ n. take_first n rows no_rows) all

pub returns-in_err-load_table-clause-given : goal.returns-in_err-load_table-clause-given
returns-in_err-load_table-clause-given g c clean inside =
    let old = state g.S.Store c.args.tx.now.conn.now in
    let mid = state g.S.Store c.loop-at.tx.conn.now in
    let new = state g.S.Store c.load_table.new.tx.conn.now in
    told_on c.from_residual.result c.in_err-load_table.field-0.0 (IsGivenLoadFault old new) c.from_residual.ensures.1
    (load_then _ old mid new c.loop-at.invariant.goes c.in_err-load_table.ensures.err c.in_err-load_table.field-0.0 c.in_err-load_table.ensures.given clean inside)
