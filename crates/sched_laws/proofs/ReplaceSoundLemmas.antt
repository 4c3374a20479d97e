-- A text for a graph that has runs keeps a sound schedule sound, where no task is lost, and none that has a try would take another number of slots.
use Rattle.std.proofs.Common.{◌≡◌, refl, sym, ap, subst, ◌∙◌, ℕ, List, [], ◌∷◌, Bool, true, false, cond, not, ◌&&◌, ◌==◌, inl, inr, map, length, Option, Some, None, is_some, is_none, nat_le, nat_lt, eqb, arith, true≢false}
use Rattle.std.specs.List.{list_all, AllByRecursion, IsDistinct}
use Rattle.std.specs.List.Sorted.{IsPermutation}
use Rattle.std.proofs.lemmas.Bool.{and_from, or_from, eqb-true, eq-eqb, lt-ltb, false_from_ne_true}
use Rattle.std.proofs.lemmas.List.Sorted.{IsPermutation-map, All-permutation}
use Rattle.std.proofs.lemmas.List.Sums.{AllPass-from_list_all, list_all-from_AllPass}
use Rattle.std.proofs.lemmas.Map.Keys.{IsDistinct-IsPermutation, IsDistinct-head, IsDistinct-tail}
use Rattle.graph_file.specs.declared.task_specs.TaskSpec.{TaskSpec}
use Rattle.graph_file.specs.Lists.{holds_at}
use Rattle.dag_check.specs.Orders.{is_in, repeated}
use Rattle.dag_check.specs.Graphs.{Dag}
use Rattle.sched_model.specs.instance_machine.Instances.{InstanceValue}
use Rattle.sched_model.specs.instance_machine.declared.tries.Try.{Try}
use Rattle.sched_model.specs.sched_state.Lists.{same, insert_by}
use Rattle.sched_model.specs.sched_state.declared.graphs.LoadedGraph.{LoadedGraph}
use Rattle.sched_model.specs.sched_state.declared.runs.Run.{Run}
use Rattle.sched_model.specs.sched_state.declared.runs.RunPhase.{RunPhase}
use Rattle.sched_model.proofs.sched_state.OrderLemmas.{and_left, and_right, not_false}
use Rattle.sched_model.proofs.sched_state.NameLemmas.{same_is, same_itself, find_passes}
use Rattle.sched_model.specs.Causes.{is_unknown_graph, pairs_named, task_named, takes_another_number, lost_task, resized_task, tries_of}
use Rattle.sched_model.specs.Changes.{new_graph, reloaded, with_graph}
use Rattle.sched_model.specs.Clearing.{pairs_of}
use Rattle.sched_model.specs.Lists.{all_pairs, rises}
use Rattle.sched_model.specs.Replacing.{pair_of, fitted_if, fitted, with_fitted, refitted, replace_graph, kept_as, newcomer}
use Rattle.sched_model.specs.Schedule.{Schedule, graph_among, graph_before, tasks_of}
use Rattle.sched_model.specs.Sound.{IsSound, is_sound_graph, is_bounded, is_sound_run, is_sound_in, is_sound_try, is_used, try_before, tries_rise, all_tries_rise, serials_of}
use Rattle.sched_laws.proofs.FittedLemmas.{Pair, all_member, find_member, none_member, found_once, zip_passes, zip_seconds, made_passes}
use Rattle.sched_laws.proofs.GraphLemmas.{GraphsStand, alike_sound, flip_same, find_loaded, reloaded_stand}
use Rattle.sched_laws.proofs.InstanceLemmas.{parts_of}
use Rattle.sched_laws.proofs.KeptLemmas.{kept_tries, newcomer_tries, kept_sound_in, newcomer_sound}
use Rattle.sched_laws.proofs.ListLemmas.{all_under}
use Rattle.sched_laws.proofs.OfferLemmas.{In}
use Rattle.sched_laws.proofs.RefitLemmas.{unmapped, graph_after, other_after, pair_named, replace_tries}
use Rattle.sched_laws.proofs.ReplaceLemmas.{IsTakenIn, sound_once, replace_names}
use Rattle.sched_laws.proofs.RunLemmas.{key, pairs_of_run}
use Rattle.sched_laws.proofs.SoundLemmas.{same_count, same_order}
use Rattle.sched_laws.proofs.UpstreamLemmas.{distinct}

-- ---- serials in another order
eqb_flips : (x y : ℕ) → eqb x y ≡ eqb y x
eqb_flips x y = elim (eqb x y) as (λ b. eqb x y ≡ b → b ≡ eqb y x) [
  | true ↦ λ e. sym (eq-eqb y x (sym (eqb-true x y e)))
  | false ↦ λ e. sym (false_from_ne_true (eqb y x) (λ f. true≢false (sym (eq-eqb x y (sym (eqb-true y x f))) ∙ e)))
] refl

none_in : (x : ℕ) (ys : List ℕ) → AllByRecursion (λ y. eqb x y ≡ false) ys → is_in ys x ≡ false
none_in x [] h = refl
none_in x (y ∷ ys) h = or_from _ _ (sym (eqb_flips x y) ∙ h.0) (none_in x ys h.1)

not_repeated : (xs : List ℕ) → IsDistinct eqb xs → repeated xs ≡ false
not_repeated [] d = refl
not_repeated (x ∷ xs) d = or_from _ _ (none_in x xs (IsDistinct-head eqb x xs d)) (not_repeated xs (IsDistinct-tail eqb x xs d))

once_permuted : (xs ys : List ℕ) → IsPermutation xs ys → repeated xs ≡ false → repeated ys ≡ false
once_permuted xs ys p e = not_repeated ys (IsDistinct-IsPermutation eqb eqb_flips xs ys p (distinct xs e))

all_permuted : {X : Type 0} (p : X → Bool) (xs ys : List X) → IsPermutation xs ys → list_all p xs ≡ true → list_all p ys ≡ true
all_permuted p xs ys m e = list_all-from_AllPass p ys (All-permutation (λ x. p x ≡ true) xs ys m (AllPass-from_list_all p xs e))

-- ---- lists
all_mapped : {X Y : Type 0} (q : Y → Bool) (f : X → Y) (xs : List X) → ((x : X) → In x xs → q (f x) ≡ true) → list_all q (map f xs) ≡ true
all_mapped q f [] h = refl
all_mapped q f (x ∷ xs) h = and_from _ _ (h x (inl refl)) (all_mapped q f xs (λ y i. h y (inr i)))

-- ---- one instance
-- by what is found of the run
fitted_by : (P : InstanceValue → Type 0) (ph : RunPhase) (es : List Pair) (n : TaskSpec) → P (newcomer ph) → ((x : Pair) → In x es → same x.0.task_id n.task_id ≡ true → P (kept_as x.0 n x.1)) → P (fitted ph es n)
fitted_by P ph es n new kept = elim (pair_of n.task_id es) as (λ o. pair_of n.task_id es ≡ o → P (fitted_if ph o n)) [
  | None ↦ λ e. new
  | Some x ↦ λ e. kept x (find_member (λ (y : Pair). same y.0.task_id n.task_id) es x e) (find_passes (λ (y : Pair). same y.0.task_id n.task_id) es x e)
] refl

some_tries : (u : Try) (us : List Try) → nat_lt 0 (length (u ∷ us)) ≡ true
some_tries u us = lt-ltb 0 (length (u ∷ us)) (omega arith)

-- a task whose tries would take as many slots
sized_by : (k m : ℕ) (us : List Try) → (nat_lt 0 (length us) && not (k == m)) ≡ false → list_all (is_sound_try m) us ≡ true → list_all (is_sound_try k) us ≡ true
sized_by k m [] e f = refl
sized_by k m (u ∷ us) e f = elim (k == m) as (λ b. (k == m) ≡ b → (nat_lt 0 (length (u ∷ us)) && not b) ≡ false → list_all (is_sound_try k) (u ∷ us) ≡ true) [
  | true ↦ λ g h. ap (λ j. list_all (is_sound_try j) (u ∷ us)) (eqb-true k m g) ∙ f
  | false ↦ λ g h. absurd (true≢false (sym (and_from _ _ (some_tries u us) refl) ∙ h))
] refl e

tries_sized : (a : Schedule) (dag : Dag) (r : Run) (n : TaskSpec) (x : Pair) → resized_task a dag ≡ None → In r a.runs → same r.graph dag.spec.dag_id ≡ true → In x (pairs_of a r) → task_named dag.tasks x.0.task_id ≡ Some n
    → list_all (is_sound_try x.0.pool_slots) x.1.tries ≡ true → list_all (is_sound_try n.pool_slots) x.1.tries ≡ true
tries_sized a dag r n x none i e j found sound =
    let test : Pair → Bool = λ y. nat_lt 0 (length y.1.tries) && takes_another_number dag y.0 in
    let passed : test x ≡ false = none_member test (pairs_named a dag.spec.dag_id) x (unmapped (λ (y : Pair). y.0.task_id) _ none) (pair_named a dag.spec.dag_id r x i e j) in
    sized_by n.pool_slots x.0.pool_slots x.1.tries (ap (λ (o : Option TaskSpec). nat_lt 0 (length x.1.tries) && holds_at (λ (u : TaskSpec). not (u.pool_slots == x.0.pool_slots)) o) (sym found) ∙ passed) sound

fitted_sound : (text : List ℕ) (dag : Dag) (a : Schedule) (r : Run) (n : TaskSpec) → is_sound_graph a (new_graph text dag) ≡ true → resized_task a dag ≡ None → is_sound_run a.graphs r ≡ true → In r a.runs → same r.graph dag.spec.dag_id ≡ true → In n dag.tasks
    → is_sound_in r.phase n (fitted r.phase (pairs_of a r) n) ≡ true
fitted_sound text dag a r n new none e i is j = fitted_by (λ k. is_sound_in r.phase n k ≡ true) r.phase (pairs_of a r) n (newcomer_sound r.phase n) (λ x k f.
    let sound : is_sound_in r.phase x.0 x.1 ≡ true = all_member (λ (y : Pair). is_sound_in r.phase y.0 y.1) (pairs_of a r) x (zip_passes (is_sound_in r.phase) (tasks_of a r) r.instances (pairs_of_run a.graphs r e)) k in
    let p = parts_of x.0 x.1 (and_left _ _ sound) in
    let id : x.0.task_id ≡ n.task_id = same_is x.0.task_id n.task_id f in
    let found : task_named dag.tasks x.0.task_id ≡ Some n = found_once (λ (t : TaskSpec). t.task_id) dag.tasks n x.0.task_id (sound_once a (new_graph text dag) new) j (ap (same n.task_id) id ∙ same_itself n.task_id) in
    kept_sound_in r.phase x.0 n x.1 sound (tries_sized a dag r n x none i is k found p.tries))

fitted_rises : (ph : RunPhase) (es : List Pair) (n : TaskSpec) → list_all (λ (x : Pair). tries_rise x.1) es ≡ true → tries_rise (fitted ph es n) ≡ true
fitted_rises ph es n e = fitted_by (λ k. tries_rise k ≡ true) ph es n (ap (rises try_before) (newcomer_tries ph)) (λ x k f. ap (rises try_before) (kept_tries x.0 n x.1) ∙ all_member (λ (y : Pair). tries_rise y.1) es x e k)

-- ---- one run
run_sound : (text : List ℕ) (dag : Dag) (a : Schedule) (r : Run) → IsTakenIn text dag a → is_sound_graph a (new_graph text dag) ≡ true → resized_task a dag ≡ None → is_sound_run a.graphs r ≡ true → In r a.runs
    → is_sound_run (with_graph text dag a.graphs) (refitted a dag r) ≡ true
run_sound text dag a r taken new none e i =
    let gs : List LoadedGraph = with_graph text dag a.graphs in
    elim (same r.graph dag.spec.dag_id) as (λ b. same r.graph dag.spec.dag_id ≡ b → is_sound_run gs (cond b (with_fitted a dag r) r) ≡ true) [
      | true ↦ λ is.
          let now = graph_after text dag a r taken e is in
          let is_new : List InstanceValue = map (fitted r.phase (pairs_of a r)) dag.tasks in
          let paired : all_pairs (is_sound_in r.phase) dag.tasks is_new ≡ true = made_passes (is_sound_in r.phase) (fitted r.phase (pairs_of a r)) dag.tasks (λ n j. fitted_sound text dag a r n new none e i is j) in
          and_from _ _ now.known (and_from _ _ (and_left _ _ (and_right (is_some (graph_among a.graphs r.graph)) _ e)) (ap (λ (d : Dag). all_pairs (is_sound_in r.phase) d.tasks is_new) now.is ∙ paired))
      | false ↦ λ is.
          let found : graph_among gs r.graph ≡ graph_among a.graphs r.graph = find_loaded text dag a.graphs r.graph (flip_same r.graph dag.spec.dag_id is) in
          alike_sound a.graphs gs r (ap is_some found) (other_after text dag a r.graph is) ∙ e
    ] refl

run_rises : (a : Schedule) (dag : Dag) (r : Run) → all_tries_rise r ≡ true → all_tries_rise (refitted a dag r) ≡ true
run_rises a dag r e = elim (same r.graph dag.spec.dag_id) as (λ b. all_tries_rise (cond b (with_fitted a dag r) r) ≡ true) [
  | true ↦ all_mapped tries_rise (fitted r.phase (pairs_of a r)) dag.tasks (λ n i. fitted_rises r.phase (pairs_of a r) n (zip_seconds tries_rise (tasks_of a r) r.instances e))
  | false ↦ e
]

-- ---- the schedule
-- a graph that is there takes the text in
graphs_after : (text : List ℕ) (dag : Dag) (gs : List LoadedGraph) → is_none (graph_among gs dag.spec.dag_id) ≡ false → with_graph text dag gs ≡ map (reloaded text dag) gs
graphs_after text dag gs known = elim (graph_among gs dag.spec.dag_id) as (λ o. is_none o ≡ false → (elim o as (λ p. List LoadedGraph) [
  | Some g ↦ map (reloaded text dag) gs
  | None ↦ insert_by graph_before (new_graph text dag) gs
]) ≡ map (reloaded text dag) gs) [
  | Some g ↦ λ e. refl
  | None ↦ λ e. absurd (true≢false e)
] known

pub replace_sound : (text : List ℕ) (dag : Dag) (a : Schedule) → IsTakenIn text dag a → is_sound_graph a (new_graph text dag) ≡ true → is_bounded (new_graph text dag) ≡ true → is_unknown_graph a dag.spec.dag_id ≡ false → lost_task a dag ≡ None → resized_task a dag ≡ None → IsSound a
    → IsSound (replace_graph text dag a)
replace_sound text dag a taken new bounded known lost none s =
    let b : Schedule = replace_graph text dag a in
    let stand : GraphsStand a b.graphs = subst (GraphsStand a) (sym (graphs_after text dag a.graphs known)) (reloaded_stand text dag a new bounded s) in
    let keys : map key b.runs ≡ map key a.runs = replace_names text dag a in
    let serials : IsPermutation (serials_of a) (serials_of b) = IsPermutation-map (λ (t : Try). t.serial) (tries_of a) (tries_of b) (replace_tries text dag a new lost s) in
    record {
      graphs_by_id = stand.order;
      pools_by_name = s.pools_by_name;
      runs_by_key = same_order a.runs b.runs keys s.runs_by_key;
      clock = s.clock;
      lanes = s.lanes;
      serials = s.serials;
      few_graphs = stand.few;
      few_pools = s.few_pools;
      few_runs = ap (λ n. nat_le n a.limits.runs) (same_count a.runs b.runs keys) ∙ s.few_runs;
      graphs = stand.sound;
      bounds = stand.bounds;
      pools = s.pools;
      default = s.default;
      runs = all_mapped (is_sound_run b.graphs) (refitted a dag) a.runs (λ r i. run_sound text dag a r taken new none (all_member (is_sound_run a.graphs) a.runs r s.runs i) i);
      serials_once = ap not (once_permuted (serials_of a) (serials_of b) serials (not_false _ s.serials_once));
      serials_used = all_permuted (is_used a.next) (serials_of a) (serials_of b) serials s.serials_used;
      tries_by_serial = all_under all_tries_rise all_tries_rise (refitted a dag) (run_rises a dag) a.runs s.tries_by_serial;
    }
