-- No row of a run, of an instance or of a try is taken away by an event: each key of the tables before it is one of those after it.
use Rattle.std.proofs.Common.{◌≡◌, ◌∙◌, refl, sym, ap, subst, ℕ, zero, suc, ◌+◌, ℤ, pos, int_cmp, int_lt, List, [], ◌∷◌, Bool, true, false, not, ◌&&◌, map, flat_map, find, slice_get, Option, Some, None, option_and_then, true≢false}
use Rattle.std.specs.List.{list_any, enumerate_from, zip}
use Rattle.record_rules.specs.sched_model.Lists.{all_pairs}
use Rattle.std.specs.Ordering.{int_eq, ordering_then}
use Rattle.std.proofs.lemmas.Bool.{and_from, eqb-true, eq-eqb}
use Rattle.graph_file.specs.declared.task_specs.TaskSpec.{TaskSpec}
use Rattle.instance_machine.specs.Instances.{InstanceValue}
use Rattle.instance_machine.specs.declared.tries.Try.{Try}
use Rattle.record_rows.specs.Rows.{RunRow, InstanceRow, AttemptRow}
use Rattle.record_rules.specs.Between.{are_tied, keeps_keys}
use Rattle.record_rules.specs.Keys.{run_row_before, instance_row_before, attempt_row_before}
use Rattle.record_rules.specs.Reading.{is_of, is_try_of}
use Rattle.record_rules.proofs.FoundLemmas.{Stands, ids_once, run_once, row_found, tries_found}
use Rattle.record_rules.proofs.KeyedLemmas.{itself, run_cmp, instance_cmp}
use Rattle.record_rules.proofs.ListLemmas.{find_first, any_first, beside}
use Rattle.record_rules.proofs.MemberLemmas.{Has, all_by, kept_has, has_flat, has_sorted, mapped_at, map_get, found_at}
use Rattle.record_rules.proofs.NumberLemmas.{less_itself, same_number}
use Rattle.record_rules.specs.sched_state.Lists.{same, name_cmp, is_less}
use Rattle.record_rules.specs.sched_state.declared.graphs.LoadedGraph.{LoadedGraph}
use Rattle.record_rules.specs.sched_state.declared.runs.Run.{Run}
use Rattle.record_rules.proofs.sched_state.NameLemmas.{same_is, same_itself}
use Rattle.record_rules.proofs.sched_state.OrderLemmas.{and_left, and_right}
use Rattle.record_rules.specs.sched_model.Clearing.{pairs_of, place_of}
use Rattle.record_rules.specs.sched_model.NamedRuns.{is_for}
use Rattle.record_rules.specs.sched_model.Schedule.{Schedule, dag_among, has_run_at, has_runs, is_at}
use Rattle.record_rules.specs.sched_model.Sound.{IsSound, is_sound_in, is_sound_run}
use Rattle.record_rules.specs.sched_model.Tables.{tables, run_row, instance_row, instance_rows, attempt_row, attempt_rows, serial_before, task_before}
use Rattle.record_rules.specs.sched_laws.Tries.{try_in, try_at, try_of}
use Rattle.record_rules.proofs.sched_laws.ListLemmas.{all_get}
use Rattle.record_rules.proofs.sched_laws.RunLemmas.{pairs_of_run}
use Rattle.record_rules.proofs.sched_laws.SettleLemmas.{and_then_some}
use Rattle.sched_events.specs.Causes.{refused}
use Rattle.sched_events.specs.Events.{named_by, IsInRange}
use Rattle.sched_events.specs.SettledAndSound.{IsSoundAndSaid}
use Rattle.sched_events.specs.Steps.{step}
use Rattle.sched_events.specs.declared.events.Event.{Event}
use Rattle.sched_events.proofs.PromiseLemmas.{step_try}
use Rattle.sched_events.proofs.StepLemmas.{step_kept, step_dates}
use Rattle.record_writing.proofs.KeyLemmas.{any_get, any_also, keeps_by, keeps_mapped, found_by, numbered_at, at_numbered, second_of, first_of_pair}
use Rattle.record_writing.proofs.TaskLemmas.{AreThere, IsThere, or_there, place_at, tasks_there}
use Rattle.record_writing.proofs.GraphKeyLemmas.{neither, step_graphs}

-- ---- tasks
-- the graph of a run keeps its tasks, each by its id
tasks_stay : (e : Event) (a : Schedule) → refused a e ≡ None → IsSoundAndSaid a → (id : List ℕ) → has_runs a id ≡ true → AreThere (dag_among a.graphs id).tasks (dag_among (step e a).graphs id).tasks
tasks_stay e a accepted kept id runs = subst (λ (gs : List LoadedGraph). AreThere (dag_among a.graphs id).tasks (dag_among gs id).tasks) (sym (step_graphs e a)) (tasks_there e a accepted kept id runs)

-- ---- runs
at_itself : (r : Run) → is_at r.graph r.logical r ≡ true
at_itself r = and_from _ _ (same_itself r.graph) (eq-eqb r.logical r.logical refl)

-- the run that stands for one of before
record Now (b : Schedule) (r : Run) : Type 0 where
  position : ℕ
  run : Run
  run_is : slice_get b.runs position ≡ Some run
  graph_is : run.graph ≡ r.graph
  logical_is : run.logical ≡ r.logical

now_at : (b : Schedule) (r q : Run) (m : ℕ) → slice_get b.runs m ≡ Some q → is_at r.graph r.logical q ≡ true → Now b r
now_at b r q m e at = record {
  position = m;
  run = q;
  run_is = e;
  graph_is = same_is q.graph r.graph (and_left _ _ at);
  logical_is = eqb-true q.logical r.logical (and_right (same q.graph r.graph) _ at);
}

run_now : (e : Event) (a : Schedule) (n : ℕ) (r : Run) → slice_get a.runs n ≡ Some r → Now (step e a) r
run_now e a n r there =
    let was : has_run_at a r.graph r.logical ≡ true = any_get (is_at r.graph r.logical) a.runs n r there (at_itself r) in
    let is : has_run_at (step e a) r.graph r.logical ≡ true = step_dates e a r.graph r.logical ∙ or_there (list_any (is_for r.graph r.logical) (named_by e a)) (has_run_at a r.graph r.logical) was in
    let f = found_at (is_at r.graph r.logical) (step e a).runs is in
    now_at (step e a) r f.1 f.0 f.2 f.3

run_self : (g : List ℕ) (l : ℤ) → is_less (ordering_then (name_cmp g g) (int_cmp l l)) ≡ false
run_self g l =
    let x : RunRow = record { dag_id = g; logical = l; data_start = l; data_end = l; kind = l; phase = l } in
    itself (ordering_then (name_cmp g g) (int_cmp l l)) (run_cmp.antisymm x x)

run_tie : (r q : Run) → q.graph ≡ r.graph → q.logical ≡ r.logical → are_tied run_row_before (run_row r) (run_row q) ≡ true
run_tie r q graph logical =
    ap (λ (g : List ℕ). not (is_less (ordering_then (name_cmp r.graph g) (int_cmp (pos r.logical) (pos q.logical)))) && not (is_less (ordering_then (name_cmp g r.graph) (int_cmp (pos q.logical) (pos r.logical))))) graph
    ∙ (ap (λ (l : ℕ). not (is_less (ordering_then (name_cmp r.graph r.graph) (int_cmp (pos r.logical) (pos l)))) && not (is_less (ordering_then (name_cmp r.graph r.graph) (int_cmp (pos l) (pos r.logical))))) logical
    ∙ neither _ _ (run_self r.graph (pos r.logical)) (run_self r.graph (pos r.logical)))

pub runs_kept : (e : Event) (a : Schedule) → keeps_keys run_row_before (tables a).runs (tables (step e a)).runs ≡ true
runs_kept e a =
    keeps_mapped run_row_before run_row a.runs (step e a).runs
    (all_by (λ r. list_any (λ q. are_tied run_row_before (run_row r) (run_row q)) (step e a).runs) a.runs (λ r k.
    let w = run_now e a k.at r k.is in
    any_get (λ q. are_tied run_row_before (run_row r) (run_row q)) (step e a).runs w.position w.run w.run_is (run_tie r w.run w.graph_is w.logical_is)))

-- ---- instances
instance_self : (g : List ℕ) (l : ℤ) (t : List ℕ) → is_less (ordering_then (name_cmp g g) (ordering_then (int_cmp l l) (name_cmp t t))) ≡ false
instance_self g l t =
    let x : InstanceRow = record { dag_id = g; logical = l; task_id = t; verdict = l; since = l } in
    itself (ordering_then (name_cmp g g) (ordering_then (int_cmp l l) (name_cmp t t))) (instance_cmp.antisymm x x)

abbrev tie_of : List ℕ → ℤ → List ℕ → List ℕ → ℤ → List ℕ → Bool
tie_of g l t h m u =
    not (is_less (ordering_then (name_cmp g h) (ordering_then (int_cmp l m) (name_cmp t u)))) && not (is_less (ordering_then (name_cmp h g) (ordering_then (int_cmp m l) (name_cmp u t))))

instance_tie : (x y : InstanceRow) → y.dag_id ≡ x.dag_id → y.logical ≡ x.logical → y.task_id ≡ x.task_id → are_tied instance_row_before x y ≡ true
instance_tie x y graph logical task =
    ap (λ (g : List ℕ). tie_of x.dag_id x.logical x.task_id g y.logical y.task_id) graph
    ∙ (ap (λ (l : ℤ). tie_of x.dag_id x.logical x.task_id x.dag_id l y.task_id) logical
    ∙ (ap (λ (t : List ℕ). tie_of x.dag_id x.logical x.task_id x.dag_id x.logical t) task
    ∙ neither _ _ (instance_self x.dag_id x.logical x.task_id) (instance_self x.dag_id x.logical x.task_id)))

-- a row that has the key of an instance of before
has_key : (x : InstanceRow) (r q : Run) (t u : TaskSpec) (i : InstanceValue) → x ≡ instance_row r (t, i) → q.graph ≡ r.graph → q.logical ≡ r.logical → u.task_id ≡ t.task_id
    → (y : InstanceRow) → is_of q.graph (pos q.logical) u.task_id y ≡ true → are_tied instance_row_before x y ≡ true
has_key x r q t u i is graph logical id y e =
    let later = and_right (same y.dag_id q.graph) _ e in
    instance_tie x y
    (same_is y.dag_id q.graph (and_left _ _ e) ∙ (graph ∙ sym (ap (λ (z : InstanceRow). z.dag_id) is)))
    (same_number y.logical (pos q.logical) (and_left _ _ later) ∙ (ap (λ (l : ℕ). pos l) logical ∙ sym (ap (λ (z : InstanceRow). z.logical) is)))
    (same_is y.task_id u.task_id (and_right (int_eq y.logical (pos q.logical)) _ later) ∙ (id ∙ sym (ap (λ (z : InstanceRow). z.task_id) is)))

pub instances_kept : (e : Event) (a : Schedule) → IsInRange e → refused a e ≡ None → IsSoundAndSaid a → keeps_keys instance_row_before (tables a).instances (tables (step e a)).instances ≡ true
instances_kept e a ranged accepted kept = keeps_by instance_row_before (tables a).instances (tables (step e a)).instances each
  where
    each : (x : InstanceRow) → Has (tables a).instances x → list_any (are_tied instance_row_before x) (tables (step e a)).instances ≡ true
    each x h =
        let b : Schedule = step e a in
        let sb : IsSound b = (step_kept e a ranged accepted kept).sound in
        let u = has_flat (instance_rows a) a.runs x h in
        let r : Run = u.of in
        let sorted = has_sorted task_before (map (instance_row r) (pairs_of a r)) x u.inside in
        let m = mapped_at (instance_row r) (pairs_of a r) sorted.at x sorted.is in
        let t : TaskSpec = m.0.0 in
        let w = run_now e a u.at r u.of_is in
        let q : Run = w.run in
        let runs : has_runs a r.graph ≡ true = any_get (λ (z : Run). same z.graph r.graph) a.runs u.at r u.of_is (same_itself r.graph) in
        let task : slice_get (dag_among a.graphs r.graph).tasks sorted.at ≡ Some t = first_of_pair (dag_among a.graphs r.graph).tasks r.instances sorted.at m.0 m.1 in
        let there : IsThere (dag_among b.graphs q.graph).tasks t.task_id =
        subst (λ id. IsThere (dag_among b.graphs id).tasks t.task_id) (sym w.graph_is) (tasks_stay e a accepted kept r.graph runs sorted.at t task) in
        let pairs = pairs_of_run b.graphs q (all_get (is_sound_run b.graphs) b.runs w.position q sb.runs w.run_is) in
        let j = beside (is_sound_in q.phase) (dag_among b.graphs q.graph).tasks q.instances there.place there.task pairs there.task_is in
        let stands : Stands b q there.task j.0 = record { run = w.position; place = there.place; run_is = w.run_is; pair_is = j.1 } in
        let of = is_of q.graph (pos q.logical) there.task.task_id in
        any_also of (are_tied instance_row_before x) (has_key x r q t there.task m.0.1 m.2 w.graph_is w.logical_is there.id_is) (tables b).instances
        (any_first of (tables b).instances (instance_row q (there.task, j.0)) [] (row_found b q there.task j.0 sb stands))

-- ---- tries
beside_second : {X Y : Type 0} (p : X → Y → Bool) (xs : List X) (ys : List Y) (n : ℕ) (y : Y) → all_pairs p xs ys ≡ true → slice_get ys n ≡ Some y → (x : X) × (slice_get (zip xs ys) n ≡ Some (x, y))
beside_second {X} {Y} p xs [] n y a e = absurd (let c : ◌≡◌ {A = Option Y} None (Some y) = e in cc)
beside_second p [] (v ∷ ys) n y a e = absurd (true≢false (sym a))
beside_second {X} {Y} p (u ∷ xs) (v ∷ ys) zero y a e =
    let c : ◌≡◌ {A = Option Y} (Some v) (Some y) = e in let r : v ≡ y = cc in
    (u, ap (λ (z : Y). let o : Option (X × Y) = Some (u, z) in o) r)
beside_second p (u ∷ xs) (v ∷ ys) (suc n) y a e = beside_second p xs ys n y (and_right (p u v) _ a) e

attempt_tie : (x y : AttemptRow) → y.serial ≡ x.serial → are_tied attempt_row_before x y ≡ true
attempt_tie x y e = ap (λ (s : ℤ). not (int_lt x.serial s) && not (int_lt s x.serial)) e ∙ neither _ _ (less_itself x.serial) (less_itself x.serial)

-- the try of a task, at its place
task_try : (a : Schedule) (r : Run) (place : ℕ) (pair : TaskSpec × InstanceValue) (n : ℕ) (u : Try) → IsSound a → slice_get (pairs_of a r) place ≡ Some pair → try_at a r.graph r.logical place n ≡ Some u → try_of a r.graph r.logical pair.0.task_id n ≡ Some u
task_try a r place pair n u s e at_place =
    ap (option_and_then (λ (p : ℕ). try_at a r.graph r.logical p n))
    (place_at (dag_among a.graphs r.graph).tasks place pair.0 (ids_once a r.graph s) (first_of_pair (dag_among a.graphs r.graph).tasks r.instances place pair e))
    ∙ at_place

pub attempts_kept : (e : Event) (a : Schedule) → IsInRange e → refused a e ≡ None → IsSoundAndSaid a → keeps_keys attempt_row_before (tables a).attempts (tables (step e a)).attempts ≡ true
attempts_kept e a ranged accepted kept = keeps_by attempt_row_before (tables a).attempts (tables (step e a)).attempts each
  where
    each : (x : AttemptRow) → Has (tables a).attempts x → list_any (are_tied attempt_row_before x) (tables (step e a)).attempts ≡ true
    each x h =
        let b : Schedule = step e a in
        let sb : IsSound b = (step_kept e a ranged accepted kept).sound in
        let u = has_flat (λ r. flat_map (attempt_rows r) (pairs_of a r)) a.runs x (has_sorted serial_before (flat_map (λ r. flat_map (attempt_rows r) (pairs_of a r)) a.runs) x h) in
        let r : Run = u.of in
        let v = has_flat (attempt_rows r) (pairs_of a r) x u.inside in
        let i : InstanceValue = v.of.1 in
        let m = mapped_at (attempt_row r v.of.0) (enumerate_from 1 i.tries) v.inside.at x v.inside.is in
        let n : ℕ = v.inside.at in
        let y = numbered_at 1 i.tries n m.0 m.1 in
        let found : find (is_at r.graph r.logical) a.runs ≡ Some r = find_first (is_at r.graph r.logical) a.runs r [] (run_once a u.at r kept.sound u.of_is) in
        let at_place : try_at a r.graph r.logical v.at n ≡ Some y.0 =
        ap (option_and_then (try_in v.at n)) found ∙ (ap (option_and_then (λ (k : InstanceValue). slice_get k.tries n)) (second_of (dag_among a.graphs r.graph).tasks r.instances v.at v.of v.of_is) ∙ y.1) in
        let w = step_try e a ranged accepted kept r.graph r.logical v.of.0.task_id n y.0 (task_try a r v.at v.of n y.0 kept.sound v.of_is at_place) in
        let p = and_then_some (λ (k : ℕ). try_at b r.graph r.logical k n) (place_of (dag_among b.graphs r.graph).tasks v.of.0.task_id) w.0 w.1 in
        let q = and_then_some (try_in p.0 n) (find (is_at r.graph r.logical) b.runs) w.0 p.2 in
        let j = and_then_some (λ (k : InstanceValue). slice_get k.tries n) (slice_get q.0.instances p.0) w.0 q.2 in
        let at = found_by (is_at r.graph r.logical) b.runs q.0 q.1 in
        let pairs = pairs_of_run b.graphs q.0 (all_get (is_sound_run b.graphs) b.runs at.0 q.0 sb.runs at.1) in
        let t = beside_second (is_sound_in q.0.phase) (dag_among b.graphs q.0.graph).tasks q.0.instances p.0 j.0 pairs j.1 in
        let stands : Stands b q.0 t.0 j.0 = record { run = at.0; place = p.0; run_is = at.1; pair_is = t.1 } in
        let row : AttemptRow = attempt_row q.0 t.0 (1 + n, w.0) in
        let mine : Has (attempt_rows q.0 (t.0, j.0)) row = record { at = n; is = map_get (attempt_row q.0 t.0) (enumerate_from 1 j.0.tries) n (1 + n, w.0) (at_numbered 1 j.0.tries n w.0 j.2) } in
        let there : Has (tables b).attempts row =
        kept_has (is_try_of q.0.graph (pos q.0.logical) t.0.task_id) (tables b).attempts row (subst (λ (ws : List AttemptRow). Has ws row) (sym (tries_found b q.0 t.0 j.0 sb stands)) mine) in
        let serial : row.serial ≡ x.serial = ap (λ (s : ℕ). pos s) w.2.serial ∙ sym (ap (λ (z : AttemptRow). z.serial) m.2 ∙ ap (λ (k : ℕ × Try). pos k.1.serial) y.2) in
        any_get (are_tied attempt_row_before x) (tables b).attempts there.at row there.is (attempt_tie x row serial)
