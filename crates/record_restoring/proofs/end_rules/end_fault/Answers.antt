use Rattle.std.proofs.Common.{sym, ap, ◌∙◌, map, get_or, List}
use Rattle.std.proofs.lemmas.Option.{get_or_from_slice_get}
use Rattle.sched_state.specs.declared.runs.Run.{Run}
use Rattle.record_rules.specs.Reading.{run_of}
use Rattle.record_rules.specs.Faults.{is_end_of_run}
use Rattle.record_rules.proofs.MemberLemmas.{map_get}
use Rattle.record_restoring.proofs.FaultLemmas.{bad_at, all_step, bad_none}
use Rattle.record_rules.proofs.RiseLemmas.{read_at}
use Rattle.record_restoring.proofs.end_rules.end_fault.Goals as goal

pub returns-then-not-is_right : goal.returns-then-not-is_right
returns-then-not-is_right c =
    sym (bad_at (is_end_of_run c.args.graphs.now c.args.rows.now) c.args.run_rows.now c.loop-position.position c.index-run_rows-position.result c.loop-position-test.true c.index-run_rows-position.is c.loop-position.invariant (sym c.is_right.ensures ∙ c.if-not-is_right.true))

pub loop-position-preserved : goal.loop-position-preserved
loop-position-preserved c =
    all_step (is_end_of_run c.args.graphs.now c.args.rows.now) c.args.run_rows.now c.loop-position.position c.index-run_rows-position.result c.loop-position-test.true c.index-run_rows-position.is c.loop-position.invariant (sym c.is_right.ensures ∙ c.if-not-is_right.false)

pub returns : goal.returns
returns c = sym (bad_none (is_end_of_run c.args.graphs.now c.args.rows.now) c.args.run_rows.now c.loop-position.position c.loop-position-test.false c.loop-position.invariant)

pub is_right-requires-clause-run : goal.is_right-requires-clause-run
is_right-requires-clause-run c =
    let f = run_of c.args.rows.now c.args.graphs.now in
    let e = map_get f c.args.run_rows.now c.loop-position.position c.index-run_rows-position.result (read_at c.args.run_rows.now c.loop-position.position c.index-run_rows-position.result c.loop-position-test.true c.index-run_rows-position.is) in
    c.index-runs-position.is ∙ ap (λ (rs : List Run). get_or rs c.loop-position.position c.index-runs-position.result) c.requires.runs
    ∙ get_or_from_slice_get (map f c.args.run_rows.now) c.loop-position.position (f c.index-run_rows-position.result) c.index-runs-position.result e
