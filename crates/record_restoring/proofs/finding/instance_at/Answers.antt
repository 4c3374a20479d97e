use Rattle.std.proofs.Common.{◌≡◌, sym, ap, ◌∙◌, rules, get_or}
use Rattle.std.specs.Ordering.{is_eq}
use Rattle.std.proofs.lemmas.Fn.{always_returns_same}
use Rattle.std.proofs.lemmas.Option.{get_or_from_slice_get}
use Rattle.std.specs.declared.cmp.Ordering.TheVariants.{Equal}
use Rattle.record_rows.specs.Rows.{InstanceRow}
use Rattle.sched_state.proofs.ElementLemmas.{element_at}
use Rattle.record_rules.specs.Reading.{is_of}
use Rattle.record_rules.proofs.KeyedLemmas.{instance_cmp}
use Rattle.sched_draft.proofs.SearchLemmas.{missed_by_search}
use Rattle.record_restoring.proofs.SearchLemmas.{any_nowhere, instance_order, instance_like, instance_key}
use Rattle.record_restoring.proofs.finding.instance_at.Goals as goal

pub returns-in-Ok : goal.returns-in-Ok
returns-in-Ok c =
    let k : InstanceRow = instance_like c.args.dag_id.now c.args.logical c.args.task_id.now in
    let q = element_at c.args.rows.now c.in-Ok.position c.in-Ok.ensures.bound in
    let e : instance_order (get_or c.args.rows.now c.in-Ok.position q.0) k ≡ Equal = c.in-Ok.ensures.position (λ r. instance_order r k) (always_returns_same _ _ _ (λ a r q k. search rules)) q.0 in
    record {
      within = c.in-Ok.ensures.bound;
      of = q.0;
      there = q.1;
      passes = instance_key c.args.dag_id.now c.args.logical c.args.task_id.now q.0
          ∙ ap (λ (r : InstanceRow). is_eq (instance_order r k)) (sym (get_or_from_slice_get c.args.rows.now c.in-Ok.position q.0 q.0 q.1)) ∙ ap is_eq e;
    }

pub returns-in-Err : goal.returns-in-Err
returns-in-Err c =
    let k : InstanceRow = instance_like c.args.dag_id.now c.args.logical c.args.task_id.now in
    let p = is_of c.args.dag_id.now c.args.logical c.args.task_id.now in
    any_nowhere p c.args.rows.now (missed_by_search instance_cmp (λ (r : InstanceRow). r) p k (instance_key c.args.dag_id.now c.args.logical c.args.task_id.now) c.args.rows.now c.in-Err.field-0 c.requires
    (c.in-Err.ensures.position (λ r. instance_order r k) (always_returns_same _ _ _ (λ a r q k. search rules))))
