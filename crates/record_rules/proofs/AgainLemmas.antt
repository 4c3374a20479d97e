-- The rows of tries, of the schedule that rows without a fault are read as, are these rows.
use Rattle.std.proofs.Common.{◌≡◌, refl, sym, ap, subst, ◌∙◌, ℕ, List, true, flat_map, Some, None, slice_get, ℤ, pos, int_eq}
use Rattle.std.specs.List.{list_any, enumerate_from}
use Rattle.std.proofs.lemmas.Bool.{and_from}
use Rattle.graph_file.specs.declared.task_specs.TaskSpec.{TaskSpec}
use Rattle.sched_laws.specs.instance_machine.Instances.{InstanceValue}
use Rattle.record_rows.specs.Rows.{RunRow, InstanceRow, AttemptRow, Rows}
use Rattle.sched_laws.specs.sched_state.Lists.{same}
use Rattle.sched_laws.specs.sched_state.Limits.{Bounds}
use Rattle.sched_laws.specs.sched_state.declared.graphs.LoadedGraph.{LoadedGraph}
use Rattle.sched_laws.specs.sched_state.declared.runs.Run.{Run}
use Rattle.sched_laws.proofs.sched_state.NameLemmas.{same_itself, same_is}
use Rattle.sched_laws.proofs.sched_state.OrderLemmas.{and_left, and_right}
use Rattle.sched_laws.proofs.ListLemmas.{all_get}
use Rattle.sched_laws.specs.sched_model.Schedule.{Schedule, dag_among}
use Rattle.sched_laws.specs.sched_model.Clearing.{pairs_of}
use Rattle.sched_laws.specs.sched_model.Sound.{IsSound}
use Rattle.sched_laws.specs.sched_model.Tables.{tables, attempt_row, attempt_rows, serial_before}
use Rattle.record_rules.specs.Reading.{Reader, graphs_of, is_of, is_try_of, tries_in, instance_row_in, instance_in, run_of, meta_of, schedule_by}
use Rattle.record_rules.specs.Keys.{attempt_row_before, IsByKey}
use Rattle.record_rules.specs.Faults.{is_attempt_row_right, is_instance_row_right, is_run_row_right, is_run_row_of, fault_by}
use Rattle.record_rules.proofs.FoundLemmas.{all_found, Stands, tries_found}
use Rattle.record_rules.specs.Numbers.{natural}
use Rattle.record_rules.proofs.NumberLemmas.{less_itself, less_more, same_number, equal_numbers}
use Rattle.record_rules.proofs.FreeLemmas.{Rules, rules_of, IsGoodReader, tasks_once, tries_right, rises_kept, found_any}
use Rattle.record_rules.proofs.RestoredLemmas.{restored_sound, date_is}
use Rattle.record_rules.proofs.MemberLemmas.{Has, has_kept, kept_has, has_sorted, has_flat, found_at, map_get, zip_get, zip_back, unique, mapped_at}
use Rattle.record_rules.proofs.RisingLemmas.{attempts_rise}
use Rattle.record_rules.proofs.SameLemmas.{rows_again}

-- ---- where a row's instance stands
pub record Place (rows : Rows) (gs : List LoadedGraph) (graph : List ℕ) (date : ℤ) (task : List ℕ) : Type 0 where
  pub run : ℕ
  pub place : ℕ
  pub row : RunRow
  pub spec : TaskSpec
  pub run_is : slice_get rows.runs run ≡ Some row
  pub spec_is : slice_get (dag_among gs row.dag_id).tasks place ≡ Some spec
  pub graph_is : row.dag_id ≡ graph
  pub date_is : row.logical ≡ date
  pub task_is : spec.task_id ≡ task

pub place_of : (rows : Rows) (gs : List LoadedGraph) (x : InstanceRow) → is_instance_row_right gs rows x ≡ true → Place rows gs x.dag_id x.logical x.task_id
place_of rows gs x e =
    let h = and_left _ _ e in
    let r = found_at (is_run_row_of x.dag_id x.logical) rows.runs (and_left _ _ h) in
    let t = found_at (λ (y : TaskSpec). same y.task_id x.task_id) (dag_among gs x.dag_id).tasks (and_right (list_any (is_run_row_of x.dag_id x.logical) rows.runs) _ h) in
    let g : r.1.dag_id ≡ x.dag_id = same_is r.1.dag_id x.dag_id (and_left _ _ r.3) in
    record {
      run = r.0;
      place = t.0;
      row = r.1;
      spec = t.1;
      run_is = r.2;
      spec_is = subst (λ (n : List ℕ). slice_get (dag_among gs n).tasks t.0 ≡ Some t.1) (sym g) t.2;
      graph_is = g;
      date_is = same_number r.1.logical x.logical (and_right (same r.1.dag_id x.dag_id) _ r.3);
      task_is = same_is t.1.task_id x.task_id t.3;
    }

pub stands_at : (read : Reader) (l : Bounds) (rows : Rows) (n m : ℕ) (r : RunRow) (t : TaskSpec) → slice_get rows.runs n ≡ Some r → slice_get (dag_among (graphs_of read rows) r.dag_id).tasks m ≡ Some t
    → Stands (schedule_by read l rows) (run_of rows (graphs_of read rows) r) t (instance_in rows r.dag_id r.logical t)
stands_at read l rows n m r t e f = record {
  run = n;
  place = m;
  run_is = map_get (run_of rows (graphs_of read rows)) rows.runs n r e;
  pair_is = zip_get (instance_in rows r.dag_id r.logical) (dag_among (graphs_of read rows) r.dag_id).tasks m t f;
}

-- ---- tries
pub record Facts (read : Reader) (l : Bounds) (rows : Rows) : Type 0 where
  pub rules : Rules read l rows
  pub key : IsByKey rows
  pub sound : IsSound (schedule_by read l rows)

tries_agree : (read : Reader) (l : Bounds) (rows : Rows) → Facts read l rows → (n m : ℕ) (r : RunRow) (t : TaskSpec) → slice_get rows.runs n ≡ Some r → slice_get (dag_among (graphs_of read rows) r.dag_id).tasks m ≡ Some t
    → tries_in (tables (schedule_by read l rows)) r.dag_id r.logical t.task_id ≡ tries_in rows r.dag_id r.logical t.task_id
tries_agree read l rows f n m r t e g =
    let gs : List LoadedGraph = graphs_of read rows in
    let a : Schedule = schedule_by read l rows in
    let x : Run = run_of rows gs r in
    let date : pos x.logical ≡ r.logical = date_is gs r (all_get (is_run_row_right gs) rows.runs n r f.rules.runs e) in
    ap (λ d. tries_in (tables a) r.dag_id d t.task_id) (sym date)
    ∙ tries_found a x t (instance_in rows r.dag_id r.logical t) f.sound (stands_at read l rows n m r t e g)
    ∙ rows_again (meta_of rows).next_serial (instance_row_in rows r.dag_id r.logical t.task_id) x r.logical t rows date
    (rises_kept attempt_row_before (is_try_of r.dag_id r.logical t.task_id) rows.attempts f.key.attempts)
    (tries_right gs (meta_of rows).next_serial rows r.dag_id r.logical m t (tasks_once read l a gs r.dag_id f.sound.graphs) g f.rules.attempts)

tried_by : (graph g : List ℕ) (date d : ℤ) (task i : List ℕ) (w : AttemptRow) → w.dag_id ≡ graph → w.logical ≡ date → w.task_id ≡ task → graph ≡ g → date ≡ d → task ≡ i → is_try_of g d i w ≡ true
tried_by graph g date d task i w e1 e2 e3 f1 f2 f3 =
    and_from _ _ (ap (λ x. same x g) (e1 ∙ f1) ∙ same_itself g) (and_from _ _ (equal_numbers w.logical d (e2 ∙ f2)) (ap (λ x. same x i) (e3 ∙ f3) ∙ same_itself i))

attempts_forth : (read : Reader) (l : Bounds) (rows : Rows) → Facts read l rows → (w : AttemptRow) → Has rows.attempts w → Has (tables (schedule_by read l rows)).attempts w
attempts_forth read l rows f w h =
    let gs : List LoadedGraph = graphs_of read rows in
    let a : Schedule = schedule_by read l rows in
    let right : is_attempt_row_right gs (meta_of rows).next_serial rows w ≡ true = all_get (is_attempt_row_right gs (meta_of rows).next_serial rows) rows.attempts h.at w f.rules.attempts h.is in
    let i = found_any (is_of w.dag_id w.logical w.task_id) rows.instances (and_left _ _ right) in
    let x : InstanceRow = i.0 in
    let k1 = and_right (same x.dag_id w.dag_id) _ i.2 in
    let p = place_of rows gs x (all_found (is_instance_row_right gs rows) (is_of w.dag_id w.logical w.task_id) rows.instances x f.rules.instances i.1) in
    let q : is_try_of p.row.dag_id p.row.logical p.spec.task_id w ≡ true =
    tried_by x.dag_id p.row.dag_id x.logical p.row.logical x.task_id p.spec.task_id w
    (sym (same_is x.dag_id w.dag_id (and_left _ _ i.2))) (sym (same_number x.logical w.logical (and_left _ _ k1))) (sym (same_is x.task_id w.task_id (and_right (int_eq x.logical w.logical) _ k1)))
    (sym p.graph_is) (sym p.date_is) (sym p.task_is) in
    kept_has (is_try_of p.row.dag_id p.row.logical p.spec.task_id) (tables a).attempts w
    (subst (λ (ws : List AttemptRow). Has ws w) (sym (tries_agree read l rows f p.run p.place p.row p.spec p.run_is p.spec_is))
    (has_kept (is_try_of p.row.dag_id p.row.logical p.spec.task_id) rows.attempts w h q))

attempts_back : (read : Reader) (l : Bounds) (rows : Rows) → Facts read l rows → (w : AttemptRow) → Has (tables (schedule_by read l rows)).attempts w → Has rows.attempts w
attempts_back read l rows f w h =
    let gs : List LoadedGraph = graphs_of read rows in
    let a : Schedule = schedule_by read l rows in
    let u = has_flat (λ r. flat_map (attempt_rows r) (pairs_of a r)) a.runs w (has_sorted serial_before (flat_map (λ r. flat_map (attempt_rows r) (pairs_of a r)) a.runs) w h) in
    let r = mapped_at (run_of rows gs) rows.runs u.at u.of u.of_is in
    let inside : Has (flat_map (attempt_rows (run_of rows gs r.0)) (pairs_of a (run_of rows gs r.0))) w = subst (λ (x : Run). Has (flat_map (attempt_rows x) (pairs_of a x)) w) r.2 u.inside in
    let v = has_flat (attempt_rows (run_of rows gs r.0)) (pairs_of a (run_of rows gs r.0)) w inside in
    let t = zip_back (instance_in rows r.0.dag_id r.0.logical) (dag_among gs r.0.dag_id).tasks v.at v.of v.of_is in
    let e = mapped_at (attempt_row (run_of rows gs r.0) v.of.0) (enumerate_from 1 v.of.1.tries) v.inside.at w v.inside.is in
    let id : v.of.0 ≡ t.0 = ap (λ (z : TaskSpec × InstanceValue). z.0) t.2 in
    let q : is_try_of r.0.dag_id r.0.logical t.0.task_id w ≡ true =
    tried_by r.0.dag_id r.0.dag_id (pos (natural r.0.logical)) r.0.logical v.of.0.task_id t.0.task_id w (ap (λ (z : AttemptRow). z.dag_id) e.2) (ap (λ (z : AttemptRow). z.logical) e.2) (ap (λ (z : AttemptRow). z.task_id) e.2)
    refl (date_is gs r.0 (all_get (is_run_row_right gs) rows.runs u.at r.0 f.rules.runs r.1)) (ap (λ (z : TaskSpec). z.task_id) id) in
    kept_has (is_try_of r.0.dag_id r.0.logical t.0.task_id) rows.attempts w
    (subst (λ (ws : List AttemptRow). Has ws w) (tries_agree read l rows f u.at v.at r.0 t.0 r.1 t.1)
    (has_kept (is_try_of r.0.dag_id r.0.logical t.0.task_id) (tables a).attempts w h q))

pub attempts_same : (read : Reader) (l : Bounds) (rows : Rows) → IsGoodReader read l → IsByKey rows → fault_by read l rows ≡ None → (tables (schedule_by read l rows)).attempts ≡ rows.attempts
attempts_same read l rows good k free =
    let o : IsSound (schedule_by read l rows) = restored_sound read l rows good k free in
    let f : Facts read l rows = record { rules = rules_of read l rows free; key = k; sound = o } in
    unique attempt_row_before (λ x. less_itself x.serial) (λ x y z. less_more x.serial y.serial z.serial) (tables (schedule_by read l rows)).attempts rows.attempts (attempts_rise (schedule_by read l rows) o) k.attempts
    (attempts_back read l rows f) (attempts_forth read l rows f)
