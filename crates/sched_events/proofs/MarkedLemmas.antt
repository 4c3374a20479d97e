-- What is marked is skipped, by its graph, its date and its task, and stays so.
use Rattle.std.proofs.Common.{◌≡◌, ◌∙◌, refl, sym, ap, inl, inr, ℕ, zero, suc, ◌+◌, List, [], ◌∷◌, Bool, true, false, not, cond, ◌||◌, find, map, Option, None, Some, option_map, option_and_then, is_none, slice_get, true≢false, arith}
use Rattle.std.specs.List.{list_any, position_from, zip}
use Rattle.std.proofs.lemmas.Bool.{and_from, eq-eqb, eqb-true, le-leb}
use Rattle.graph_file.specs.declared.task_specs.TaskSpec.{TaskSpec}
use Rattle.instance_machine.specs.Instances.{InstanceValue}
use Rattle.instance_machine.specs.States.{state_of}
use Rattle.trigger_rules.specs.declared.states.State.{State}
use Rattle.trigger_rules.specs.declared.states.State.TheVariants as state
use Rattle.trigger_rules.specs.declared.verdicts.Verdict.{Verdict}
use Rattle.trigger_rules.specs.declared.verdicts.Verdict.TheVariants as verdict
use Rattle.sched_state.specs.Lists.{same}
use Rattle.sched_state.specs.declared.clearings.Clearing.{Clearing}
use Rattle.sched_state.specs.declared.runs.Run.{Run}
use Rattle.sched_state.proofs.NameLemmas.{find_passes, same_is}
use Rattle.sched_state.proofs.OrderLemmas.{and_left, and_right}
use Rattle.sched_laws.specs.sched_model.Causes.{is_unknown_graph, is_unknown_task, least_in_flight}
use Rattle.sched_laws.specs.sched_model.Clearing.{Selection, around, cleared_by, named_in, pairs_of, place_of, set_if, set_named, set_run}
use Rattle.sched_laws.specs.sched_model.Lists.{all_pairs}
use Rattle.sched_laws.specs.sched_model.Marking.{failed_after, mark, one_of, pass_over, passed_over}
use Rattle.sched_laws.specs.sched_model.Replacing.{pair_of}
use Rattle.sched_laws.specs.sched_model.Schedule.{Schedule, dag_named, has_run_at, is_at, tasks_of}
use Rattle.sched_laws.specs.sched_model.Sound.{IsSound, is_sound_in, is_sound_run}
use Rattle.sched_laws.specs.Instances.{instance_of, state_of_task, IsStillFinished}
use Rattle.sched_laws.specs.Tries.{run_at}
use Rattle.sched_laws.proofs.FinishedLemmas.{advance_still}
use Rattle.sched_laws.proofs.ListLemmas.{all_get}
use Rattle.sched_laws.proofs.MarkLemmas.{marked_is, passed_state}
use Rattle.sched_laws.proofs.RunLemmas.{pairs_of_run}
use Rattle.sched_laws.proofs.SetBackLemmas as back
use Rattle.sched_events.specs.Causes.{refused}
use Rattle.sched_events.specs.Events.{change_by}
use Rattle.sched_events.specs.SettledAndSound.{IsSoundAndSaid}
use Rattle.sched_events.specs.Steps.{step}
use Rattle.sched_events.specs.declared.events.Event.TheVariants.{Mark}
use Rattle.sched_events.specs.declared.refusals.Refusal.TheVariants as refusal
use Rattle.sched_events.proofs.AcceptLemmas.{change_kept}
use Rattle.sched_events.proofs.CauseLemmas.{no_map, no_when}

-- ---- what is found
find_map : {X : Type 0} (p : X → Bool) (f : X → X) → ((x : X) → p (f x) ≡ p x) → (xs : List X) → find p (map f xs) ≡ option_map f (find p xs)
find_map p f h [] = refl
find_map p f h (x ∷ xs) = elim (p x) as (λ b. p x ≡ b → cond (p (f x)) (Some (f x)) (find p (map f xs)) ≡ option_map f (cond b (Some x) (find p xs))) [
  | true ↦ λ e. ap (λ b. cond b (Some (f x)) (find p (map f xs))) (h x ∙ e)
  | false ↦ λ e. ap (λ b. cond b (Some (f x)) (find p (map f xs))) (h x ∙ e) ∙ find_map p f h xs
] refl

found_at : {X : Type 0} (p : X → Bool) (xs : List X) (x : X) → find p xs ≡ Some x → (n : ℕ) × (slice_get xs n ≡ Some x)
found_at {X} p [] x e = absurd (let c : ◌≡◌ {A = Option X} None (Some x) = e in cc)
found_at p (y ∷ ys) x e = elim (p y) as (λ b. cond b (Some y) (find p ys) ≡ Some x → (n : ℕ) × (slice_get (y ∷ ys) n ≡ Some x)) [
  | true ↦ λ f. (0, f)
  | false ↦ λ f. let t = found_at p ys x f in (suc t.0, t.1)
] e

found_any : {X : Type 0} (p : X → Bool) (xs : List X) → list_any p xs ≡ true → (x : X) × (find p xs ≡ Some x)
found_any p [] e = absurd (true≢false (sym e))
found_any {X} p (y ∷ ys) e = elim (p y) as (λ b. (b || list_any p ys) ≡ true → (x : X) × (cond b (Some y) (find p ys) ≡ Some x)) [
  | true ↦ λ f. (y, refl)
  | false ↦ λ f. found_any p ys f
] e

-- ---- the place of a task
record Placed (task : List ℕ) (k n : ℕ) (ts : List TaskSpec) : Type 0 where
  place : ℕ
  place_is : n ≡ k + place
  one : TaskSpec
  one_is : slice_get ts place ≡ Some one
  pair : (js : List InstanceValue) (j : InstanceValue) → slice_get js place ≡ Some j → pair_of task (zip ts js) ≡ Some (one, j)

first_pair : (task : List ℕ) (t : TaskSpec) (ts : List TaskSpec) → same t.task_id task ≡ true → (js : List InstanceValue) (j : InstanceValue) → slice_get js 0 ≡ Some j → pair_of task (zip (t ∷ ts) js) ≡ Some (t, j)
first_pair task t ts s [] j g = absurd (let c : ◌≡◌ {A = Option InstanceValue} None (Some j) = g in cc)
first_pair task t ts s (x ∷ xs) j g =
    ap (λ b. cond b (Some (t, x)) (pair_of task (zip ts xs))) s ∙ ap (option_map (λ (i : InstanceValue). (t, i))) g

later_pair : (task : List ℕ) (t : TaskSpec) (ts : List TaskSpec) (m : ℕ) (u : TaskSpec) → same t.task_id task ≡ false → ((js : List InstanceValue) (j : InstanceValue) → slice_get js m ≡ Some j → pair_of task (zip ts js) ≡ Some (u, j))
    → (js : List InstanceValue) (j : InstanceValue) → slice_get js (suc m) ≡ Some j → pair_of task (zip (t ∷ ts) js) ≡ Some (u, j)
later_pair task t ts m u s h [] j g = absurd (let c : ◌≡◌ {A = Option InstanceValue} None (Some j) = g in cc)
later_pair task t ts m u s h (x ∷ xs) j g = ap (λ b. cond b (Some (t, x)) (pair_of task (zip ts xs))) s ∙ h xs j g

placed_from : (task : List ℕ) (k n : ℕ) (ts : List TaskSpec) → position_from (λ (t : TaskSpec). same t.task_id task) k ts ≡ Some n → Placed task k n ts
placed_from task k n [] e = absurd (let c : ◌≡◌ {A = Option ℕ} None (Some n) = e in cc)
placed_from task k n (t ∷ ts) e = elim (same t.task_id task) as (λ b. same t.task_id task ≡ b → cond b (Some k) (position_from (λ (u : TaskSpec). same u.task_id task) (k + 1) ts) ≡ Some n → Placed task k n (t ∷ ts)) [
  | true ↦ λ s f.
      let c : ◌≡◌ {A = Option ℕ} (Some k) (Some n) = f in
      let is : k ≡ n = cc in
      record { place = 0; place_is = omega (arith, is); one = t; one_is = refl; pair = first_pair task t ts s }
  | false ↦ λ s f.
      let r = placed_from task (k + 1) n ts f in
      let is : n ≡ (k + 1) + r.place = r.place_is in
      record { place = suc r.place; place_is = omega (arith, is); one = r.one; one_is = r.one_is; pair = later_pair task t ts r.place r.one s r.pair }
] refl e

-- there is an instance for each task
beside : {X Y : Type 0} (p : X → Y → Bool) (xs : List X) (ys : List Y) (n : ℕ) (x : X) → all_pairs p xs ys ≡ true → slice_get xs n ≡ Some x → (y : Y) × (slice_get ys n ≡ Some y)
beside {X} p [] ys n x e f = absurd (let c : ◌≡◌ {A = Option X} None (Some x) = f in cc)
beside p (z ∷ xs) [] n x e f = absurd (true≢false (sym e))
beside p (z ∷ xs) (w ∷ ys) zero x e f = (w, refl)
beside p (z ∷ xs) (w ∷ ys) (suc n) x e f = beside p xs ys n x (and_right (p z w) _ e) f

-- ---- what is set stands in its run, and its run where it stood
same_key : (v : Option Verdict) (a : Schedule) (named : Selection) (id : List ℕ) (date : ℕ) (r : Run) (es : List (TaskSpec × InstanceValue)) → is_at id date (set_if v a named r es) ≡ is_at id date r
same_key v a named id date r [] = refl
same_key v a named id date r (x ∷ es) = refl

run_set : (v : Option Verdict) (a : Schedule) (named : Selection) (id : List ℕ) (date : ℕ) (r : Run) → run_at id date a.runs ≡ Some r → run_at id date (set_named v named a).runs ≡ Some (set_run v a named r)
run_set v a named id date r e =
    find_map (is_at id date) (set_run v a named) (λ q. same_key v a named id date q (named_in a named q)) a.runs ∙ ap (option_map (set_run v a named)) e

same_tasks : (v : Option Verdict) (a : Schedule) (named : Selection) (r : Run) (es : List (TaskSpec × InstanceValue)) → tasks_of (set_named v named a) (set_if v a named r es) ≡ tasks_of a r
same_tasks v a named r [] = refl
same_tasks v a named r (x ∷ es) = refl

-- the run of a mark
abbrev marked_run : List ℕ → ℕ → List ℕ → Schedule → Run → Run
marked_run id date task a r =
    let b : Schedule = pass_over id date task a in
    set_run None b (cleared_by b (failed_after id date task)) (set_run (Some verdict.Skip) a (cleared_by a (one_of id date task)) r)

marked_found : (id : List ℕ) (date : ℕ) (task : List ℕ) (a : Schedule) (r : Run) → run_at id date a.runs ≡ Some r → run_at id date (mark id date task a).runs ≡ Some (marked_run id date task a r)
marked_found id date task a r e =
    let b : Schedule = pass_over id date task a in
    let q : Run = set_run (Some verdict.Skip) a (cleared_by a (one_of id date task)) r in
    run_set None b (cleared_by b (failed_after id date task)) id date q (run_set (Some verdict.Skip) a (cleared_by a (one_of id date task)) id date r e)

marked_there : (id : List ℕ) (date : ℕ) (task : List ℕ) (a : Schedule) (n : ℕ) (r : Run) → slice_get a.runs n ≡ Some r → slice_get (mark id date task a).runs n ≡ Some (marked_run id date task a r)
marked_there id date task a n r e =
    let b : Schedule = pass_over id date task a in
    let q : Run = set_run (Some verdict.Skip) a (cleared_by a (one_of id date task)) r in
    back.run_at None b (cleared_by b (failed_after id date task)) n q (back.run_at (Some verdict.Skip) a (cleared_by a (one_of id date task)) n r e)

marked_tasks : (id : List ℕ) (date : ℕ) (task : List ℕ) (a : Schedule) (r : Run) → tasks_of (mark id date task a) (marked_run id date task a r) ≡ tasks_of a r
marked_tasks id date task a r =
    let b : Schedule = pass_over id date task a in
    let named : Selection = cleared_by a (one_of id date task) in
    let q : Run = set_run (Some verdict.Skip) a named r in
    same_tasks None b (cleared_by b (failed_after id date task)) q (named_in b (cleared_by b (failed_after id date task)) q) ∙ same_tasks (Some verdict.Skip) a named r (named_in a named r)

-- ---- it is named
named_one : (a : Schedule) (id : List ℕ) (date : ℕ) (task : List ℕ) (r : Run) (p : ℕ) (e : TaskSpec × InstanceValue) → is_at id date r ≡ true → place_of (tasks_of a r) task ≡ Some p → cleared_by a (one_of id date task) r p e ≡ true
named_one a id date task r p e at placed =
    let c : Clearing = one_of id date task in
    let day : r.logical ≡ date = eqb-true r.logical date (and_right (same r.graph id) _ at) in
    let place : around c (dag_named a r.graph) (place_of (tasks_of a r) task) p ≡ true =
    ap (λ o. around c (dag_named a r.graph) o p) placed ∙ ap (λ b. b || around c (dag_named a r.graph) None p) (eq-eqb p p refl) in
    and_from _ _ (and_from _ _ (and_left (same r.graph id) _ at) (and_from _ _ (le-leb date r.logical (omega (arith, day))) (le-leb r.logical date (omega (arith, day))))) (and_from _ _ place refl)

-- ---- it is skipped
marked_in : (id : List ℕ) (date : ℕ) (task : List ℕ) (a : Schedule) (r : Run) (p : ℕ) → run_at id date a.runs ≡ Some r → place_of (dag_named a id).tasks task ≡ Some p → IsSound a → state_of_task (mark id date task a) id date task ≡ Some state.Skipped
marked_in id date task a r p found placed s =
    let at : is_at id date r ≡ true = find_passes (is_at id date) a.runs r found in
    let graph : r.graph ≡ id = same_is r.graph id (and_left (same r.graph id) _ at) in
    let of_run : place_of (tasks_of a r) task ≡ Some p = ap (λ name. place_of (dag_named a name).tasks task) graph ∙ placed in
    let t = placed_from task 0 p (tasks_of a r) of_run in
    let here : p ≡ t.place = omega (arith, t.place_is) in
    let n = found_at (is_at id date) a.runs r found in
    let sound : is_sound_run a.graphs r ≡ true = all_get (is_sound_run a.graphs) a.runs n.0 r s.runs n.1 in
    let i = beside (is_sound_in r.phase) (tasks_of a r) r.instances t.place t.one (pairs_of_run a.graphs r sound) t.one_is in
    let named : cleared_by a (one_of id date task) r t.place (t.one, i.0) ≡ true = named_one a id date task r t.place (t.one, i.0) at (of_run ∙ ap (λ (m : ℕ). Some m) here) in
    let w : Run = marked_run id date task a r in
    let instance : slice_get w.instances t.place ≡ Some (passed_over i.0) =
    sym (ap (option_and_then (λ (q : Run). slice_get q.instances t.place)) (marked_there id date task a n.0 r n.1)) ∙ marked_is id date task a n.0 t.place r t.one i.0 n.1 t.one_is i.1 named in
    let pair : instance_of (mark id date task a) id date task ≡ Some (t.one, passed_over i.0) =
    ap (option_and_then (λ (q : Run). pair_of task (pairs_of (mark id date task a) q))) (marked_found id date task a r found)
    ∙ (ap (λ (ts : List TaskSpec). pair_of task (zip ts w.instances)) (marked_tasks id date task a r) ∙ t.pair w.instances (passed_over i.0) instance) in
    ap (option_map (λ (e : TaskSpec × InstanceValue). state_of e.0 e.1)) pair ∙ ap (λ (x : State). Some x) (passed_state t.one i.0)

some_of : {X : Type 0} (o : Option X) → is_none o ≡ false → (x : X) × (o ≡ Some x)
some_of None e = absurd (true≢false e)
some_of (Some x) e = (x, refl)

yes : (b : Bool) → not b ≡ false → b ≡ true
yes true e = refl
yes false e = absurd (true≢false e)

marked_state : (id : List ℕ) (date : ℕ) (task : List ℕ) (a : Schedule) → refused a (Mark id date task) ≡ None → IsSound a → state_of_task (mark id date task a) id date task ≡ Some state.Skipped
marked_state id date task a accepted s =
    let known = no_when (is_unknown_graph a id) _ _ accepted in
    let task_known = no_when (is_unknown_task a (one_of id date task)) _ _ known.1 in
    let over = no_map refusal.InFlight (least_in_flight a (cleared_by a (one_of id date task))) _ task_known.1 in
    let there = no_when (not (has_run_at a id date)) _ _ over.1 in
    let r = found_any (is_at id date) a.runs (yes (has_run_at a id date) there.0) in
    let p = some_of (place_of (dag_named a id).tasks task) task_known.0 in
    marked_in id date task a r.0 p.0 r.1 p.1 s

-- it stays so through all that follows
still_skipped : (o : Option State) → IsStillFinished state.Skipped o → o ≡ Some state.Skipped
still_skipped o (inl e) = e
still_skipped o (inr f) = absurd (let c : state.Skipped ≡ state.Failed = f.0 in cc)

pub step_marked : (id : List ℕ) (date : ℕ) (task : List ℕ) (a : Schedule) → refused a (Mark id date task) ≡ None → IsSoundAndSaid a → state_of_task (step (Mark id date task) a) id date task ≡ Some state.Skipped
unfolding step
step_marked id date task a accepted kept =
    let b : Schedule = change_by (Mark id date task) a in
    let after = change_kept (Mark id date task) a tt accepted kept in
    still_skipped _ (advance_still [] b id date task state.Skipped refl after.0 refl (inl (marked_state id date task a accepted kept.sound)))
