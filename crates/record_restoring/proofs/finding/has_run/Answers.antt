use Rattle.std.proofs.Common.{◌≡◌, sym, ap, ◌∙◌, rules, get_or}
use Rattle.std.proofs.lemmas.Fn.{always_returns_same}
use Rattle.std.proofs.lemmas.Option.{get_or_from_slice_get}
use Rattle.std.specs.declared.cmp.Ordering.TheVariants.{Equal}
use Rattle.record_rows.specs.Rows.{RunRow}
use Rattle.sched_state.proofs.ElementLemmas.{element_at}
use Rattle.record_rules.specs.Faults.{is_run_row_of}
use Rattle.record_rules.proofs.KeyedLemmas.{run_cmp}
use Rattle.sched_draft.proofs.SearchLemmas.{found_by_search, missed_by_search}
use Rattle.record_restoring.proofs.SearchLemmas.{any_there, any_nowhere, run_order, run_like, run_key}
use Rattle.record_restoring.proofs.finding.has_run.Goals as goal

pub returns-in-Ok : goal.returns-in-Ok
returns-in-Ok c =
    let k : RunRow = run_like c.args.dag_id.now c.args.logical in
    let p = is_run_row_of c.args.dag_id.now c.args.logical in
    let q = element_at c.args.rows.now c.in-Ok.field-0 c.in-Ok.ensures.bound in
    let e : run_order (get_or c.args.rows.now c.in-Ok.field-0 q.0) k ≡ Equal = c.in-Ok.ensures.position (λ r. run_order r k) (always_returns_same _ _ _ (λ a r q k. search rules)) q.0 in
    sym (any_there p c.args.rows.now q.0 (found_by_search run_cmp (λ (r : RunRow). r) p k (run_key c.args.dag_id.now c.args.logical) c.args.rows.now c.in-Ok.field-0 q.0 c.requires q.1
    (ap (λ (r : RunRow). run_order r k) (sym (get_or_from_slice_get c.args.rows.now c.in-Ok.field-0 q.0 q.0 q.1)) ∙ e)))

pub returns-in-Err : goal.returns-in-Err
returns-in-Err c =
    let k : RunRow = run_like c.args.dag_id.now c.args.logical in
    let p = is_run_row_of c.args.dag_id.now c.args.logical in
    sym (any_nowhere p c.args.rows.now (missed_by_search run_cmp (λ (r : RunRow). r) p k (run_key c.args.dag_id.now c.args.logical) c.args.rows.now c.in-Err.field-0 c.requires
    (c.in-Err.ensures.position (λ r. run_order r k) (always_returns_same _ _ _ (λ a r q k. search rules)))))
